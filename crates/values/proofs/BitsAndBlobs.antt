-- The bits of Bits and the bytes of a Blob: they are determined, Bits have some, and it is settled whether a Blob has. So the two calls have
-- exactly one answer, and there is a buffer that is always enough. Assumes nothing.
use mathlib.Core.Path.{refl, sym, ◌∙◌}
use mathlib.Core.Logic.{inl, inr, ⊎_elim}
use mathlib.Core.List.{List}
use Prim.Native.Nat.{ℕ}
use native.Mathlib.Omega.{arith}
use lib.ListN.{length}
use Rattle.lexicon.specs.Values.{BlobOf}
use Rattle.lexicon.proofs.Contents.{has_bits, bits_same, bits_short, blob_same, blob_short}
use Rattle.lexicon.proofs.Unfit.{bytes_or_none}
use Rattle.values.specs.Bits.{bits_call}
use Rattle.values.specs.Blob.{blob_call}
use Rattle.values.proofs.BytesDetermined.{Good, Settled}
use Rattle.values.proofs.Fits.{Bounded}

pub bits_settled : Settled bits_call
bits_settled =
    record {
      one_place = λ piece b c. absurd b;
      determined = λ piece n x y. bits_same piece x y;
      bad_or_good = λ piece x. let b = has_bits piece x in inr (record { not_bad = λ p n. n; bytes = b.0; are = b.1 });
    }

-- a buffer of four bytes for each byte of the piece is enough
pub bits_bounded : Bounded bits_call 4
bits_bounded = record { at_most = λ piece n x. omega (arith, bits_short piece x) }

pub blob_settled : Settled blob_call
blob_settled =
    record {
      one_place = λ piece b c. b.0 ∙ sym c.0;
      determined = λ piece n x y. blob_same piece x y;
      bad_or_good = λ piece t. ⊎_elim (λ x. inr (some piece x)) (λ n. inl (0, (refl, n))) (bytes_or_none piece t);
    }
  where
    some : (piece : List ℕ) → (bs : List ℕ) × BlobOf piece 0 (length piece) bs → Good blob_call piece
    some piece x = record { not_bad = λ p b. b.1 x.0 x.1; bytes = x.0; are = x.1 }

-- a buffer as long as the piece is enough
pub blob_bounded : Bounded blob_call 1
blob_bounded = record { at_most = λ piece n x. omega (arith, blob_short piece x) }
