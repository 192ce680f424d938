-- The machine values of a `ShownHandle`. Assumes `Logic`.
use Rattle.std.proofs.Common.{◌≡◌, ℕ, List, [], ◌∷◌, ◌++◌, refl, subst}
use lib.Dec.{T, lit<}
use seplogic.Ra.Ura.{Ura}
use mir.Syntax.{ty_ptr, impl, tnil, dnil}
use mir.Raw.{raw as bare}
use mir.Val.{Val, vstruct, of_list, has_ty, WT}
use base.Logic.{ent, guard, guard_i, via, snd∗, never, fst∗}
use base.Fraction.{full_share}
use contract.Monad.{fact_use}
use types.Logic.{Logic, sem}
use types.Kit.{Item, Goal, Seq, Step, step, ‵, given, learn, ◌$◌, move, drop, fsplit, fjoin, fpick, fpack, feq_i, feq_l, use1}
use denote.RattleType.{RattleType, Valss}
use denote.Builtin.{RawPtr}
use denote.Memory.{lone}
use denote.RawPtr.{Ptr, block_ptr, null_ptr, ptr_val, in_a_block, lies_at, Testable}
use denote.Steps.{nothing}
use denote.Param.{layout}
use denote.Param.Laws.{Laws}
use denote.Struct.Struct.{within}
use denote.Struct.Owning.{shape}
use Rattle.std.proofs.alloc.Calls.{Al, handle_tells}
use Rattle.std.proofs.cell.Inside.{Good}
use Rattle.std.specs.Prelude.{Option, None, Some}
use Rattle.std.specs.declared.alloc.Global.{Global}
use Rattle.std.specs.contracts.alloc.Global as heap
use Rattle.std.proofs.alloc.Global.TheLaws as heap_laws
use Rattle.std.specs.contracts.impls.GlobalAllocator.TheImpl.{ghosts}
use Rattle.std.proofs.GlobalToken.{dealloc_token-Testable}
use Rattle.std.specs.Box.Ownership.{box_owns}
use Rattle.std.proofs.ResultValues.{and_tt}
use Rattle.ansi_screen_c.proofs.Values.{both}
use Rattle.ansi_screen_c.specs.ShownHandle.{owned}
use Rattle.shown_pieces.specs.contracts.log.ShownLog as held
use Rattle.ansi_screen_c.specs.contracts.shown_handle.ShownHandle as handle

abbrev pub Z : RattleType
Z = heap.the_row

abbrev pub LZ : Laws Z
LZ = heap_laws.the_row_laws

abbrev pub R : RattleType
R = held.the_row

abbrev pub H : RattleType
H = handle.the_row

abbrev pub al : Al
al = record { row = Z; laws = LZ; g = ghosts; d = impl [] tnil dnil; drops = impl [] tnil dnil }

abbrev pub boxed : Global → Ptr → R.Denot → base.Fml.Fml
boxed a p x = box_owns (ghosts.dealloc_token a) R p x

pub Ptr-Good : (p : Ptr) → T (has_ty ty_ptr (ptr_val p)) × WT (ptr_val p)
Ptr-Good (block_ptr b o) = (tt, tt)
Ptr-Good null_ptr = (tt, record { fits = lit< tt })

pub handle_good : (p : Ptr) (h : Val) → Good (layout Z) h → Good (layout H) (both (ptr_val p) h)
handle_good (block_ptr b o) h fits = (and_tt (has_ty (layout Z) h) fits.0, (tt, (fits.1, tt)))
handle_good null_ptr h fits = (and_tt (has_ty (layout Z) h) fits.0, (record { fits = lit< tt }, (fits.1, tt)))

module _ {M : Type 1} {𝓤 : Ura M} (𝓛 : Logic 𝓤) (a : Global) where
  tested : (p : Ptr) (x : R.Denot) → ent 𝓤 (sem 𝓛 (boxed a p x)) (guard 𝓤 (Testable p) (sem 𝓛 (boxed a p x)))
  tested p x = fact_use 𝓤 (Testable p)
      (via 𝓤 _ (snd∗ 𝓤 (sem 𝓛 (lies_at R full_share p x)) (sem 𝓛 (ghosts.dealloc_token a (bare (lone R.mir)) p))) (dealloc_token-Testable 𝓛 a (bare (lone R.mir)) p))
      (guard_i 𝓤 (Testable p) (sem 𝓛 (boxed a p x)))

module _ {M : Type 1} {𝓤 : Ura M} {𝓛 : Logic 𝓤} {K : Type 0} {Γ : List (Item 𝓤)} {G : Goal 𝓤 𝓛.H} where
  pub handle_out : K → (d : H.Denot) (vs : List Val)
      → ((h : Val) → vs ≡ both (ptr_val d.at) h ∷ [] → Good (layout Z) h → Seq K 𝓛 (‵ (owned d.alloc d.at d.value) ∷ ‵ (Z.own_val d.alloc (h ∷ [])) ∷ Γ) G)
      → Seq K 𝓛 (‵ (H.own_val d vs) ∷ Γ) G
  handle_out t d vs k =
      fsplit t $ fpick t (λ vss. fsplit t $ feq_l t (λ ev. fsplit t $ feq_l t (λ ep. fsplit t $ handle_tells al t d.alloc vss.1.0 (λ h ea fits. move t (1 ∷ []) $ drop t $ move t (1 ∷ []) $
      k h (subst (λ (ws : List Val). vs ≡ vstruct (of_list (ptr_val d.at ∷ (ws ++ []))) ∷ []) ea
      (subst (λ (ps : List Val). vs ≡ vstruct (of_list (ps ++ (vss.1.0 ++ []))) ∷ []) ep ev)) fits))))

  pub handle_in : K → (h : Val) (p : Ptr) (a : Global) (x : Option R.Denot)
      → Step K 𝓛 (‵ (H.own_val (record { at = p; alloc = a; value = x }) (both (ptr_val p) h ∷ [])) ∷ Γ) G (‵ (owned a p x) ∷ ‵ (Z.own_val a (h ∷ [])) ∷ Γ) G
  handle_in t h p a x = step (λ s. let v : Val = both (ptr_val p) h in
      nothing t $ move t (2 ∷ 0 ∷ []) $ fjoin t $ feq_i t (List Val) (ptr_val p ∷ []) (ptr_val p ∷ []) refl $ fjoin t $ feq_i t (List Val) (v ∷ []) (v ∷ []) refl $ fjoin t $
      fpack t (Valss (RawPtr ∷ Z ∷ [])) (within (shape handle.the_type) (p, ((heap.the_field).into a, tt)) (v ∷ [])) (ptr_val p ∷ [], (h ∷ [], tt)) $ fjoin t $ s)

  -- nothing, or a box whose pointer may be compared with null
  pub either_owned : K → (a : Global) (p : Ptr) (x : Option R.Denot)
      → (p ≡ null_ptr → x ≡ None → Seq K 𝓛 Γ G)
      → ((b o : ℕ) (y : R.Denot) → p ≡ block_ptr b o → x ≡ Some y → Testable (block_ptr b o) → Seq K 𝓛 (‵ (boxed a (block_ptr b o) y) ∷ Γ) G)
      → Seq K 𝓛 (‵ (owned a p x) ∷ Γ) G
  either_owned t a p None none one = feq_l t (λ e. none e refl)
  either_owned t a p (Some y) none one =
      in_a_block t p (λ q. boxed a q y) (fst∗ 𝓤 (never 𝓤) (sem 𝓛 (ghosts.dealloc_token a (bare (lone R.mir)) null_ptr))) (λ b o e.
      use1 𝓛 (given (Testable (block_ptr b o)) (‵ (boxed a (block_ptr b o) y))) (tested 𝓛 a (block_ptr b o) y) $ learn t (λ is. one b o y e refl is))
