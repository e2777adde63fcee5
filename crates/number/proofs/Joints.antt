-- No digit begins what joins two units. Assumes nothing.
use mathlib.Core.Path.{◌≡◌, sym, subst}
use Rattle.lexicon.specs.declared.Base.{Base}
use Rattle.lexicon.specs.declared.Base.TheVariants.{Two, Eight, Ten, Sixteen}
use Rattle.lexicon.specs.declared.Set.{Set}
use Rattle.lexicon.specs.Bytes.{members, digit_set_of}
use Rattle.lexicon.proofs.Groups.{Clear}
use Rattle.lexicon.proofs.Numbers.{clear, clear_base64}
use Rattle.number.specs.Groups.{OfDigits}

pub clear_digits : {s : Set} → OfDigits s → Clear (members s)
clear_digits OfDigits.binary = clear Two
clear_digits OfDigits.octal = clear Eight
clear_digits OfDigits.decimal = clear Ten
clear_digits OfDigits.hexadecimal = clear Sixteen
clear_digits OfDigits.base64 = clear_base64

pub of_base_lem : (b : Base) (s : Set) → s ≡ digit_set_of b → OfDigits s
of_base_lem b s e = subst OfDigits (sym e) (go b)
  where
    go : (b : Base) → OfDigits (digit_set_of b)
    go Two = OfDigits.binary
    go Eight = OfDigits.octal
    go Ten = OfDigits.decimal
    go Sixteen = OfDigits.hexadecimal
