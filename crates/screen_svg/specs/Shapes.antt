-- Shapes of line drawing and of blocks, as commands of a path from the top left of a cell to that of the next one. A cell is 10
-- units wide and 20 high; a light line is 1 unit thick, a heavy one 3. Written by make_shapes.py.
--
-- Sources: The Unicode Standard, code charts U+2500 (Box Drawing) and U+2580 (Block Elements); SVG 2, 9.3 (path data).
use Rattle.std.specs.Prelude.{ℕ, Bool, ◌==◌, not, List, [], ◌∷◌, codes, if◌then◌else◌}
use Rattle.anstyle_parse.specs.Stream.Bytes.{is_within}
use Rattle.ansi_html.specs.Links.{is_none}

-- what a table has for a number
abbrev pub found : ℕ → List (ℕ × List ℕ) → List ℕ
found n [] = []
found n (it ∷ others) = if n == it.0 then it.1 else found n others

-- U+2500 to U+250F
abbrev pub in_250 : List (ℕ × List ℕ)
in_250 =
    (0x2500, codes "m0 10h10v1h-10zm10-10") ∷
    (0x2501, codes "m0 9h10v3h-10zm10-9") ∷
    (0x2502, codes "m5 0h1v20h-1zm5 0") ∷
    (0x2503, codes "m4 0h3v20h-3zm6 0") ∷
    (0x2504, codes "m1 10h2v1h-2zm3 0h2v1h-2zm3 0h2v1h-2zm3-10") ∷
    (0x2505, codes "m1 9h2v3h-2zm3 0h2v3h-2zm3 0h2v3h-2zm3-9") ∷
    (0x2506, codes "m5 1h1v5h-1zm0 7h1v5h-1zm0 7h1v5h-1zm5-15") ∷
    (0x2507, codes "m4 1h3v5h-3zm0 7h3v5h-3zm0 7h3v5h-3zm6-15") ∷
    (0x2508, codes "m.5 10h1.5v1h-1.5zm2.5 0h1.5v1h-1.5zm2.5 0h1.5v1h-1.5zm2.5 0h1.5v1h-1.5zm2-10") ∷
    (0x2509, codes "m.5 9h1.5v3h-1.5zm2.5 0h1.5v3h-1.5zm2.5 0h1.5v3h-1.5zm2.5 0h1.5v3h-1.5zm2-9") ∷
    (0x250A, codes "m5 1h1v3h-1zm0 5h1v3h-1zm0 5h1v3h-1zm0 5h1v3h-1zm5-16") ∷
    (0x250B, codes "m4 1h3v3h-3zm0 5h3v3h-3zm0 5h3v3h-3zm0 5h3v3h-3zm6-16") ∷
    (0x250C, codes "m5 10h5v1h-5zm0 0h1v10h-1zm5-10") ∷
    (0x250D, codes "m5 9h5v3h-5zm0 0h1v11h-1zm5-9") ∷
    (0x250E, codes "m4 10h6v1h-6zm0 0h3v10h-3zm6-10") ∷
    (0x250F, codes "m4 9h6v3h-6zm0 0h3v11h-3zm6-9") ∷
    []

-- U+2510 to U+251F
abbrev pub in_251 : List (ℕ × List ℕ)
in_251 =
    (0x2510, codes "m0 10h6v1h-6zm5 0h1v10h-1zm5-10") ∷
    (0x2511, codes "m0 9h6v3h-6zm5 0h1v11h-1zm5-9") ∷
    (0x2512, codes "m0 10h7v1h-7zm4 0h3v10h-3zm6-10") ∷
    (0x2513, codes "m0 9h7v3h-7zm4 0h3v11h-3zm6-9") ∷
    (0x2514, codes "m5 10h5v1h-5zm0-10h1v11h-1zm5 0") ∷
    (0x2515, codes "m5 9h5v3h-5zm0-9h1v12h-1zm5 0") ∷
    (0x2516, codes "m4 10h6v1h-6zm0-10h3v11h-3zm6 0") ∷
    (0x2517, codes "m4 9h6v3h-6zm0-9h3v12h-3zm6 0") ∷
    (0x2518, codes "m0 10h6v1h-6zm5-10h1v11h-1zm5 0") ∷
    (0x2519, codes "m0 9h6v3h-6zm5-9h1v12h-1zm5 0") ∷
    (0x251A, codes "m0 10h7v1h-7zm4-10h3v11h-3zm6 0") ∷
    (0x251B, codes "m0 9h7v3h-7zm4-9h3v12h-3zm6 0") ∷
    (0x251C, codes "m5 10h5v1h-5zm0-10h1v20h-1zm5 0") ∷
    (0x251D, codes "m5 9h5v3h-5zm0-9h1v20h-1zm5 0") ∷
    (0x251E, codes "m4 10h6v1h-6zm0-10h3v11h-3zm1 10h1v10h-1zm5-10") ∷
    (0x251F, codes "m4 10h6v1h-6zm1-10h1v11h-1zm-1 10h3v10h-3zm6-10") ∷
    []

-- U+2520 to U+252F
abbrev pub in_252 : List (ℕ × List ℕ)
in_252 =
    (0x2520, codes "m4 10h6v1h-6zm0-10h3v20h-3zm6 0") ∷
    (0x2521, codes "m4 9h6v3h-6zm0-9h3v12h-3zm1 9h1v11h-1zm5-9") ∷
    (0x2522, codes "m4 9h6v3h-6zm1-9h1v12h-1zm-1 9h3v11h-3zm6-9") ∷
    (0x2523, codes "m4 9h6v3h-6zm0-9h3v20h-3zm6 0") ∷
    (0x2524, codes "m0 10h6v1h-6zm5-10h1v20h-1zm5 0") ∷
    (0x2525, codes "m0 9h6v3h-6zm5-9h1v20h-1zm5 0") ∷
    (0x2526, codes "m0 10h7v1h-7zm4-10h3v11h-3zm1 10h1v10h-1zm5-10") ∷
    (0x2527, codes "m0 10h7v1h-7zm5-10h1v11h-1zm-1 10h3v10h-3zm6-10") ∷
    (0x2528, codes "m0 10h7v1h-7zm4-10h3v20h-3zm6 0") ∷
    (0x2529, codes "m0 9h7v3h-7zm4-9h3v12h-3zm1 9h1v11h-1zm5-9") ∷
    (0x252A, codes "m0 9h7v3h-7zm5-9h1v12h-1zm-1 9h3v11h-3zm6-9") ∷
    (0x252B, codes "m0 9h7v3h-7zm4-9h3v20h-3zm6 0") ∷
    (0x252C, codes "m0 10h10v1h-10zm5 0h1v10h-1zm5-10") ∷
    (0x252D, codes "m0 9h6v3h-6zm5 1h5v1h-5zm0-1h1v11h-1zm5-9") ∷
    (0x252E, codes "m0 10h6v1h-6zm5-1h5v3h-5zm0 0h1v11h-1zm5-9") ∷
    (0x252F, codes "m0 9h10v3h-10zm5 0h1v11h-1zm5-9") ∷
    []

-- U+2530 to U+253F
abbrev pub in_253 : List (ℕ × List ℕ)
in_253 =
    (0x2530, codes "m0 10h10v1h-10zm4 0h3v10h-3zm6-10") ∷
    (0x2531, codes "m0 9h7v3h-7zm4 1h6v1h-6zm0-1h3v11h-3zm6-9") ∷
    (0x2532, codes "m0 10h7v1h-7zm4-1h6v3h-6zm0 0h3v11h-3zm6-9") ∷
    (0x2533, codes "m0 9h10v3h-10zm4 0h3v11h-3zm6-9") ∷
    (0x2534, codes "m0 10h10v1h-10zm5-10h1v11h-1zm5 0") ∷
    (0x2535, codes "m0 9h6v3h-6zm5 1h5v1h-5zm0-10h1v12h-1zm5 0") ∷
    (0x2536, codes "m0 10h6v1h-6zm5-1h5v3h-5zm0-9h1v12h-1zm5 0") ∷
    (0x2537, codes "m0 9h10v3h-10zm5-9h1v12h-1zm5 0") ∷
    (0x2538, codes "m0 10h10v1h-10zm4-10h3v11h-3zm6 0") ∷
    (0x2539, codes "m0 9h7v3h-7zm4 1h6v1h-6zm0-10h3v12h-3zm6 0") ∷
    (0x253A, codes "m0 10h7v1h-7zm4-1h6v3h-6zm0-9h3v12h-3zm6 0") ∷
    (0x253B, codes "m0 9h10v3h-10zm4-9h3v12h-3zm6 0") ∷
    (0x253C, codes "m0 10h10v1h-10zm5-10h1v20h-1zm5 0") ∷
    (0x253D, codes "m0 9h6v3h-6zm5 1h5v1h-5zm0-10h1v20h-1zm5 0") ∷
    (0x253E, codes "m0 10h6v1h-6zm5-1h5v3h-5zm0-9h1v20h-1zm5 0") ∷
    (0x253F, codes "m0 9h10v3h-10zm5-9h1v20h-1zm5 0") ∷
    []

-- U+2540 to U+254F
abbrev pub in_254 : List (ℕ × List ℕ)
in_254 =
    (0x2540, codes "m0 10h10v1h-10zm4-10h3v11h-3zm1 10h1v10h-1zm5-10") ∷
    (0x2541, codes "m0 10h10v1h-10zm5-10h1v11h-1zm-1 10h3v10h-3zm6-10") ∷
    (0x2542, codes "m0 10h10v1h-10zm4-10h3v20h-3zm6 0") ∷
    (0x2543, codes "m0 9h7v3h-7zm4 1h6v1h-6zm0-10h3v12h-3zm1 9h1v11h-1zm5-9") ∷
    (0x2544, codes "m0 10h7v1h-7zm4-1h6v3h-6zm0-9h3v12h-3zm1 9h1v11h-1zm5-9") ∷
    (0x2545, codes "m0 9h7v3h-7zm4 1h6v1h-6zm1-10h1v12h-1zm-1 9h3v11h-3zm6-9") ∷
    (0x2546, codes "m0 10h7v1h-7zm4-1h6v3h-6zm1-9h1v12h-1zm-1 9h3v11h-3zm6-9") ∷
    (0x2547, codes "m0 9h10v3h-10zm4-9h3v12h-3zm1 9h1v11h-1zm5-9") ∷
    (0x2548, codes "m0 9h10v3h-10zm5-9h1v12h-1zm-1 9h3v11h-3zm6-9") ∷
    (0x2549, codes "m0 9h7v3h-7zm4 1h6v1h-6zm0-10h3v20h-3zm6 0") ∷
    (0x254A, codes "m0 10h7v1h-7zm4-1h6v3h-6zm0-9h3v20h-3zm6 0") ∷
    (0x254B, codes "m0 9h10v3h-10zm4-9h3v20h-3zm6 0") ∷
    (0x254C, codes "m.5 10h4v1h-4zm5 0h4v1h-4zm4.5-10") ∷
    (0x254D, codes "m.5 9h4v3h-4zm5 0h4v3h-4zm4.5-9") ∷
    (0x254E, codes "m5 1h1v8h-1zm0 10h1v8h-1zm5-11") ∷
    (0x254F, codes "m4 1h3v8h-3zm0 10h3v8h-3zm6-11") ∷
    []

-- U+2550 to U+255F
abbrev pub in_255 : List (ℕ × List ℕ)
in_255 =
    (0x2550, codes "m0 9h10v1h-10zm0 2h10v1h-10zm10-11") ∷
    (0x2551, codes "m4 0h1v20h-1zm2 0h1v20h-1zm4 0") ∷
    (0x2552, codes "m5 9h5v1h-5zm0 2h5v1h-5zm0-2h1v11h-1zm5-9") ∷
    (0x2553, codes "m4 10h6v1h-6zm0 0h1v10h-1zm2 0h1v10h-1zm4-10") ∷
    (0x2554, codes "m4 9h6v1h-6zm2 2h4v1h-4zm-2-2h1v11h-1zm2 2h1v9h-1zm4-11") ∷
    (0x2555, codes "m0 9h6v1h-6zm0 2h6v1h-6zm5-2h1v11h-1zm5-9") ∷
    (0x2556, codes "m0 10h7v1h-7zm4 0h1v10h-1zm2 0h1v10h-1zm4-10") ∷
    (0x2557, codes "m0 9h7v1h-7zm0 2h5v1h-5zm4 0h1v9h-1zm2-2h1v11h-1zm4-9") ∷
    (0x2558, codes "m5 9h5v1h-5zm0 2h5v1h-5zm0-11h1v12h-1zm5 0") ∷
    (0x2559, codes "m4 10h6v1h-6zm0-10h1v11h-1zm2 0h1v11h-1zm4 0") ∷
    (0x255A, codes "m6 9h4v1h-4zm-2 2h6v1h-6zm0-11h1v12h-1zm2 0h1v10h-1zm4 0") ∷
    (0x255B, codes "m0 9h6v1h-6zm0 2h6v1h-6zm5-11h1v12h-1zm5 0") ∷
    (0x255C, codes "m0 10h7v1h-7zm4-10h1v11h-1zm2 0h1v11h-1zm4 0") ∷
    (0x255D, codes "m0 9h5v1h-5zm0 2h7v1h-7zm4-11h1v10h-1zm2 0h1v12h-1zm4 0") ∷
    (0x255E, codes "m5 9h5v1h-5zm0 2h5v1h-5zm0-11h1v20h-1zm5 0") ∷
    (0x255F, codes "m7 10h3v1h-3zm-3-10h1v20h-1zm2 0h1v20h-1zm4 0") ∷
    []

-- U+2560 to U+256F
abbrev pub in_256 : List (ℕ × List ℕ)
in_256 =
    (0x2560, codes "m6 9h4v1h-4zm0 2h4v1h-4zm-2-11h1v20h-1zm2 0h1v10h-1zm0 11h1v9h-1zm4-11") ∷
    (0x2561, codes "m0 9h6v1h-6zm0 2h6v1h-6zm5-11h1v20h-1zm5 0") ∷
    (0x2562, codes "m0 10h4v1h-4zm4-10h1v20h-1zm2 0h1v20h-1zm4 0") ∷
    (0x2563, codes "m0 9h5v1h-5zm0 2h5v1h-5zm4-11h1v10h-1zm0 11h1v9h-1zm2-11h1v20h-1zm4 0") ∷
    (0x2564, codes "m0 9h10v1h-10zm0 2h10v1h-10zm5 1h1v8h-1zm5-12") ∷
    (0x2565, codes "m0 10h10v1h-10zm4 0h1v10h-1zm2 0h1v10h-1zm4-10") ∷
    (0x2566, codes "m0 9h10v1h-10zm0 2h5v1h-5zm6 0h4v1h-4zm-2 0h1v9h-1zm2 0h1v9h-1zm4-11") ∷
    (0x2567, codes "m0 9h10v1h-10zm0 2h10v1h-10zm5-11h1v9h-1zm5 0") ∷
    (0x2568, codes "m0 10h10v1h-10zm4-10h1v11h-1zm2 0h1v11h-1zm4 0") ∷
    (0x2569, codes "m0 9h5v1h-5zm6 0h4v1h-4zm-6 2h10v1h-10zm4-11h1v10h-1zm2 0h1v10h-1zm4 0") ∷
    (0x256A, codes "m0 9h10v1h-10zm0 2h10v1h-10zm5-11h1v20h-1zm5 0") ∷
    (0x256B, codes "m0 10h10v1h-10zm4-10h1v20h-1zm2 0h1v20h-1zm4 0") ∷
    (0x256C, codes "m0 9h5v1h-5zm6 0h4v1h-4zm-6 2h5v1h-5zm6 0h4v1h-4zm-2-11h1v10h-1zm0 11h1v9h-1zm2-11h1v10h-1zm0 11h1v9h-1zm4-11") ∷
    (0x256D, codes "m5 20v-5a5 5 0 0 1 5-5v1a4 4 0 0 0-4 4v5zm5-20") ∷
    (0x256E, codes "m6 20v-5a6 5 0 0 0-6-5v1a5 4 0 0 1 5 4v5zm4-20") ∷
    (0x256F, codes "m6 0v6a6 5 0 0 1-6 5v-1a5 4 0 0 0 5-4v-6zm4 0") ∷
    []

-- U+2570 to U+257F
abbrev pub in_257 : List (ℕ × List ℕ)
in_257 =
    (0x2570, codes "m5 0v6a5 5 0 0 0 5 5v-1a4 4 0 0 1-4-4v-6zm5 0") ∷
    (0x2571, codes "m0 20v-1l9.5-19h.5v1l-9.5 19zm10-20") ∷
    (0x2572, codes "m0 0h.5l9.5 19v1h-.5l-9.5-19zm10 0") ∷
    (0x2573, codes "m0 20v-1l9.5-19h.5v1l-9.5 19zm0-20h.5l9.5 19v1h-.5l-9.5-19zm10 0") ∷
    (0x2574, codes "m0 10h6v1h-6zm10-10") ∷
    (0x2575, codes "m5 0h1v11h-1zm5 0") ∷
    (0x2576, codes "m5 10h5v1h-5zm5-10") ∷
    (0x2577, codes "m5 10h1v10h-1zm5-10") ∷
    (0x2578, codes "m0 9h6v3h-6zm10-9") ∷
    (0x2579, codes "m4 0h3v11h-3zm6 0") ∷
    (0x257A, codes "m5 9h5v3h-5zm5-9") ∷
    (0x257B, codes "m4 10h3v10h-3zm6-10") ∷
    (0x257C, codes "m0 10h6v1h-6zm5-1h5v3h-5zm5-9") ∷
    (0x257D, codes "m5 0h1v11h-1zm-1 10h3v10h-3zm6-10") ∷
    (0x257E, codes "m0 9h6v3h-6zm5 1h5v1h-5zm5-10") ∷
    (0x257F, codes "m4 0h3v11h-3zm1 10h1v10h-1zm5-10") ∷
    []

-- U+2580 to U+258F
abbrev pub in_258 : List (ℕ × List ℕ)
in_258 =
    (0x2580, codes "m0 0h10v10h-10zm10 0") ∷
    (0x2581, codes "m0 17h10v3h-10zm10-17") ∷
    (0x2582, codes "m0 15h10v5h-10zm10-15") ∷
    (0x2583, codes "m0 12h10v8h-10zm10-12") ∷
    (0x2584, codes "m0 10h10v10h-10zm10-10") ∷
    (0x2585, codes "m0 7h10v13h-10zm10-7") ∷
    (0x2586, codes "m0 5h10v15h-10zm10-5") ∷
    (0x2587, codes "m0 2h10v18h-10zm10-2") ∷
    (0x2588, codes "m0 0h10v20h-10zm10 0") ∷
    (0x2589, codes "m0 0h9v20h-9zm10 0") ∷
    (0x258A, codes "m0 0h8v20h-8zm10 0") ∷
    (0x258B, codes "m0 0h6v20h-6zm10 0") ∷
    (0x258C, codes "m0 0h5v20h-5zm10 0") ∷
    (0x258D, codes "m0 0h4v20h-4zm10 0") ∷
    (0x258E, codes "m0 0h3v20h-3zm10 0") ∷
    (0x258F, codes "m0 0h1v20h-1zm10 0") ∷
    []

-- U+2590 to U+259F
abbrev pub in_259 : List (ℕ × List ℕ)
in_259 =
    (0x2590, codes "m5 0h5v20h-5zm5 0") ∷
    (0x2591, []) ∷
    (0x2592, []) ∷
    (0x2593, []) ∷
    (0x2594, codes "m0 0h10v3h-10zm10 0") ∷
    (0x2595, codes "m9 0h1v20h-1zm1 0") ∷
    (0x2596, codes "m0 10h5v10h-5zm10-10") ∷
    (0x2597, codes "m5 10h5v10h-5zm5-10") ∷
    (0x2598, codes "m0 0h5v10h-5zm10 0") ∷
    (0x2599, codes "m0 0h5v10h-5zm0 10h5v10h-5zm5 0h5v10h-5zm5-10") ∷
    (0x259A, codes "m0 0h5v10h-5zm5 10h5v10h-5zm5-10") ∷
    (0x259B, codes "m0 0h5v10h-5zm5 0h5v10h-5zm-5 10h5v10h-5zm10-10") ∷
    (0x259C, codes "m0 0h5v10h-5zm5 0h5v10h-5zm0 10h5v10h-5zm5-10") ∷
    (0x259D, codes "m5 0h5v10h-5zm5 0") ∷
    (0x259E, codes "m5 0h5v10h-5zm-5 10h5v10h-5zm10-10") ∷
    (0x259F, codes "m5 0h5v10h-5zm-5 10h5v10h-5zm5 0h5v10h-5zm5-10") ∷
    []

-- the shape of a character; of most there is none
unfoldable pub shape_of : ℕ → List ℕ
shape_of c =
    if is_within 0x2500 0x250F c then found c in_250
    else if is_within 0x2510 0x251F c then found c in_251
    else if is_within 0x2520 0x252F c then found c in_252
    else if is_within 0x2530 0x253F c then found c in_253
    else if is_within 0x2540 0x254F c then found c in_254
    else if is_within 0x2550 0x255F c then found c in_255
    else if is_within 0x2560 0x256F c then found c in_256
    else if is_within 0x2570 0x257F c then found c in_257
    else if is_within 0x2580 0x258F c then found c in_258
    else if is_within 0x2590 0x259F c then found c in_259
    else []

abbrev pub has_shape : ℕ → Bool
has_shape c = not (is_none (shape_of c))
