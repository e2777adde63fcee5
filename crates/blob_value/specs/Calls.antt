-- What the code finds a piece to be. Assumes nothing.
use Rattle.std.specs.Prelude.{◌≡◌, List, ℕ, length}
use Rattle.lexicon.specs.Bytes.{base64}
use Rattle.lexicon.specs.Base64.{Encodes}
use Rattle.lexicon.specs.Values.{Behind}
use Rattle.values.specs.Exactly.{Exactly}
use Rattle.values.specs.Bytes.{Call, BadPiece, PieceBytes}
use Rattle.values.specs.Blob.{blob_call}
use Rattle.values.specs.Bits.{bits_call}
use Rattle.blob_value.specs.declared.Kind.{Kind}
use Rattle.blob_value.specs.declared.mark.Mark.{Mark}
use Rattle.blob_value.specs.declared.mark.Mark.TheVariants.{BlobBase64}
use Rattle.blob_value.specs.Marks.{kind_of}
use Rattle.blob_value.specs.Spread.{Whole, Has}

abbrev pub call_of : Kind → Call
call_of Kind.Blob = blob_call
call_of Kind.Bits = bits_call

-- the piece is exactly one literal of the mark, and has bytes
pub record Sound (piece : List ℕ) (mark : Mark) : Type 0 where
  pub exact : Exactly (call_of (kind_of mark)).literal piece
  pub good : (p : ℕ) → BadPiece (call_of (kind_of mark)) piece p → ⊥
  pub digits : Has (Whole piece mark)
  pub bytes : List ℕ
  pub are : PieceBytes (call_of (kind_of mark)) piece bytes

-- n `=` end the literal; only base 64 has them
pub record Padded (piece : List ℕ) (mark : Mark) (n : ℕ) : Type 0 where
  pub others : (mark ≡ BlobBase64 → ⊥) → n ≡ 0
  pub base64_is : mark ≡ BlobBase64 → (ds bs : List ℕ) → Behind piece "0xy" 4 base64 0 (length piece) ds →
      (e : Encodes ds bs) → e.padding ≡ n

-- the piece is sound for its mark, which is one of the kind
pub record Marked (kind : Kind) (piece : List ℕ) (mark : Mark) : Type 0 where
  pub of_kind : kind_of mark ≡ kind
  pub sound : Sound piece mark
