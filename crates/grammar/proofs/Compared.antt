-- Demand 3 over tokens: two levels read a text alike, or up to the first newer form of the lower one. Assumes nothing.
use mathlib.Core.Path.{◌≡◌, sym, ◌∙◌}
use mathlib.Core.List.{List, [], ◌∷◌, ◌++◌}
use mathlib.Core.Option.{some}
use Rattle.grammar.specs.Tokens.{Tok}
use Rattle.grammar.specs.Level.{Level, left_arrows, ◌Within◌}
use Rattle.grammar.specs.Place.{Newer}
use Rattle.grammar.proofs.Frames.{Stack, want}
use Rattle.grammar.proofs.Machine.{runs}
use Rattle.grammar.proofs.Viable.{place_runs}
use Rattle.grammar.proofs.Levels.{Known, alike}
use Rattle.grammar.proofs.FirstNewer.{First, all_known, first_at, first_newer}

module _ (a b : Level) where
  -- the runs are equal; or both want a value, with the same stack, before the first newer form of the lower level
  pub data Compared (ts : List Tok) : Type 0 where
    both_alike : Known a ts [] → runs a ts ≡ runs b ts → Compared ts
    apart_at : (xs : List Tok) (t : Tok) (ys : List Tok) (K : Stack) → ts ≡ xs ++ (t ∷ ys) → Known a xs (t ∷ ys) → Newer a xs t ys →
        runs a xs ≡ some (want K) → runs b xs ≡ some (want K) → Compared ts

module _ (a b : Level) (within : a Within b) (arrows : a left_arrows ≡ b left_arrows) where
  pub compared : (ts : List Tok) → Compared a b ts
  compared ts = go (first_newer a ts)
    where
      go : First a ts → Compared a b ts
      go (all_known k) = both_alike k (alike a b within arrows ts [] k)
      go (first_at xs t ys e k n) =
          let w = place_runs a xs t.at n.place in
          apart_at xs t ys w.0 e k n w.1 (sym (alike a b within arrows xs (t ∷ ys) k) ∙ w.1)
