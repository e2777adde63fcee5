-- What a mark tells of the literal behind it. Assumes nothing.
use Rattle.std.specs.Prelude.{cond, ℕ, ltb, eqb}
use Prim.Native.String.{String}
use Rattle.rules.specs.Class.{Class, byte_of}
use Rattle.lexicon.specs.Bytes.{binary, octal, hexadecimal, base64}
use Rattle.lexicon.specs.Values.{digit}
use Rattle.lexicon.specs.Parts.{sextet}
use Rattle.blob_value.specs.declared.Kind.{Kind}
use Rattle.blob_value.specs.declared.mark.Mark.{Mark}
use Rattle.blob_value.specs.declared.mark.Mark.TheVariants.{BlobBinary, BlobHexadecimal, BlobBase64}
use Rattle.blob_value.specs.declared.mark.Mark.TheVariants.{BitsBinary, BitsOctal, BitsHexadecimal}

-- the mark itself
abbrev pub mark_of : Mark → String
mark_of BlobBinary = "0xb"
mark_of BlobHexadecimal = "0xx"
mark_of BlobBase64 = "0xy"
mark_of BitsBinary = "0bb"
mark_of BitsOctal = "0bo"
mark_of BitsHexadecimal = "0bx"

-- the kind of its literals
abbrev pub kind_of : Mark → Kind
kind_of BlobBinary = Kind.Blob
kind_of BlobHexadecimal = Kind.Blob
kind_of BlobBase64 = Kind.Blob
kind_of BitsBinary = Kind.Bits
kind_of BitsOctal = Kind.Bits
kind_of BitsHexadecimal = Kind.Bits

-- their digits, how many make a unit, and the bits of one
abbrev pub digits_of : Mark → Class
digits_of BlobBinary = binary
digits_of BlobHexadecimal = hexadecimal
digits_of BlobBase64 = base64
digits_of BitsBinary = binary
digits_of BitsOctal = octal
digits_of BitsHexadecimal = hexadecimal

abbrev pub unit_of : Mark → ℕ
unit_of BlobBinary = 8
unit_of BlobHexadecimal = 2
unit_of BlobBase64 = 4
unit_of BitsBinary = 1
unit_of BitsOctal = 1
unit_of BitsHexadecimal = 1

abbrev pub width_of : Mark → ℕ
width_of BlobBinary = 1
width_of BlobHexadecimal = 4
width_of BlobBase64 = 6
width_of BitsBinary = 1
width_of BitsOctal = 3
width_of BitsHexadecimal = 4

-- the bits that a byte of the buffer holds, and how many bytes a unit fills
abbrev pub size_of : Kind → ℕ
size_of Kind.Blob = 8
size_of Kind.Bits = 1

abbrev pub bytes_of : Mark → ℕ
bytes_of BlobBinary = 1
bytes_of BlobHexadecimal = 1
bytes_of BlobBase64 = 3
bytes_of BitsBinary = 1
bytes_of BitsOctal = 3
bytes_of BitsHexadecimal = 4

-- the number of a digit, by how many digits there are; a `=` counts as zero bits
unfoldable pub value_of : ℕ → ℕ → ℕ
value_of radix b = cond (ltb radix 64) (digit b) (cond (eqb b (byte_of "=")) 0 (sextet b))
