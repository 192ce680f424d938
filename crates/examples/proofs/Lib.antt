mod QuietLemmas
