-- Every token rule takes ordinary bytes, whole segments in quotes, and dividing space only where any other would do; so a further literal
-- joins the laws of layout by its rule alone. Assumes nothing.
use mathlib.Core.Path.{refl}
use mathlib.Core.Bool.{true, false}
use Rattle.rules.specs.Class.{any_of}
use Rattle.rules.specs.Rule.{Rule, lit}
use Rattle.rules.proofs.Classes.{includes, in_some}
use Rattle.lexicon.specs.declared.Bound.{Bound}
use Rattle.lexicon.specs.declared.Bound.TheVariants.{Open, Less, LessEqual}
use Rattle.lexicon.specs.declared.Sign.{Sign}
use Rattle.lexicon.specs.declared.Sign.TheVariants.{RoundOpen, RoundClose, CurlyOpen, CurlyClose, SquareOpen, SquareClose, Comma, ArrowRight, ArrowLeft, Dots, Star}
use Rattle.lexicon.specs.Symbols.{side, symbol}
use Rattle.lexicon.specs.Token.{Lexeme, an_ignorance, a_boolean, an_integer, a_fraction, a_bits, a_blob, a_quoted, a_word, a_code_point, a_later, a_symbol, rule}
use Rattle.form.proofs.Fits.{Sub, sub, exact, Fits, none, seq, narrow, numbers, ink_fits, integer_fits, fraction_fits, bits_fit, blob_fits, quoted_fits}
use Rattle.layout.specs.Relaid.{ordinary}

-- the bytes of numbers are ordinary
pub numeric : Sub numbers ordinary
unfolding includes in_some
numeric = sub numbers ordinary refl

-- and so are what may join digits, and a colon
pub low_line : Sub (any_of "_") ordinary
unfolding includes in_some
low_line = sub (any_of "_") ordinary refl

pub colon : Sub (any_of ":") ordinary
unfolding includes in_some
colon = sub (any_of ":") ordinary refl

-- the rule fits, with segments in quotes or without
pub record Fitting (r : Rule) : Type 1 where
  pub Quotes : Type 0
  pub fits : Fits ordinary Quotes exact r exact

unquoted : {r : Rule} → Fits ordinary ⊥ exact r exact → Fitting r
unquoted f = record { Quotes = ⊥; fits = f }

side_fits : (b : Bound) → Fits ordinary ⊥ exact (lit (side b)) exact
unfolding includes in_some
side_fits Open = none
side_fits Less = ink_fits ordinary _ refl
side_fits LessEqual = ink_fits ordinary _ refl

symbol_fits : (s : Sign) → Fits ordinary ⊥ exact (symbol s) exact
unfolding includes in_some
symbol_fits RoundOpen = ink_fits ordinary _ refl
symbol_fits RoundClose = ink_fits ordinary _ refl
symbol_fits CurlyOpen = ink_fits ordinary _ refl
symbol_fits CurlyClose = ink_fits ordinary _ refl
symbol_fits SquareOpen = ink_fits ordinary _ refl
symbol_fits SquareClose = ink_fits ordinary _ refl
symbol_fits Comma = ink_fits ordinary _ refl
symbol_fits ArrowRight = ink_fits ordinary _ refl
symbol_fits ArrowLeft = ink_fits ordinary _ refl
symbol_fits Dots = ink_fits ordinary _ refl
symbol_fits (Star low high) = seq (side_fits low) (seq (ink_fits ordinary _ refl) (side_fits high))

pub fitting : (m : Lexeme) → Fitting (rule m)
unfolding includes in_some
fitting an_ignorance = unquoted (ink_fits ordinary _ refl)
fitting (a_boolean true) = unquoted (ink_fits ordinary _ refl)
fitting (a_boolean false) = unquoted (ink_fits ordinary _ refl)
fitting an_integer = unquoted (narrow (integer_fits ordinary numeric))
fitting a_fraction = unquoted (fraction_fits ordinary numeric)
fitting a_bits = unquoted (bits_fit ordinary numeric)
fitting a_blob = unquoted (blob_fits ordinary numeric)
fitting a_quoted = record { Quotes = Unit {0}; fits = quoted_fits ordinary }
fitting a_word = unquoted (ink_fits ordinary _ refl)
fitting a_code_point = unquoted (ink_fits ordinary _ refl)
fitting a_later = unquoted (ink_fits ordinary _ refl)
fitting (a_symbol s) = unquoted (symbol_fits s)
