-- The bytes of a part of the piece are those that are read at its places. Assumes nothing.
use mathlib.Core.Path.{◌≡◌, refl, sym, ap, ◌∙◌}
use mathlib.Core.List.{List, ◌∷◌}
use Prim.Native.Nat.{ℕ, zero, suc, ◌+◌, ◌-◌, ◌≤◌}
use native.Mathlib.Omega.{arith}
use lib.ListN.{length, get_or, take, drop}
use lib.Seq.{take-length, drop-cons}
use Rattle.lexicon.specs.Values.{read}

pub part_read : (piece : List ℕ) (i n : ℕ) → i + n ≤ length piece → take n (drop i piece) ≡ read piece i n
part_read piece i zero h = refl
part_read piece i (suc n) h =
    let e : suc i ≡ i + 1 = omega arith in
    ap (λ (l : List ℕ). take (suc n) l) (drop-cons piece i 0 (omega arith))
    ∙ ap (λ (k : ℕ). get_or piece i 0 ∷ take n (drop k piece)) e
    ∙ ap (λ (l : List ℕ). get_or piece i 0 ∷ l) (part_read piece (i + 1) n (omega arith))

pub whole_read : (piece : List ℕ) → piece ≡ read piece 0 (length piece - 0)
whole_read piece =
    let e : length piece ≡ length piece - 0 = omega arith in
    sym (take-length piece) ∙ part_read piece 0 (length piece) (omega arith) ∙ ap (λ (n : ℕ). read piece 0 n) e
