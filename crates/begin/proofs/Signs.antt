-- Tokens by their classes: what an arm for several kinds, or several signs, says of each of them. Assumes nothing.
use mathlib.Core.Path.{◌≡◌, refl}
use mathlib.Core.Bool.{true, false≢true}
use Rattle.lexicon.specs.declared.Kind.{Kind}
use Rattle.lexicon.specs.declared.Sign.{Sign}
use Rattle.grammar.specs.Tokens
use Rattle.grammar.specs.Tokens.{Class, Mark, class_kind, class_sign}
use Rattle.begin.specs.Signs.{is_close_of, literal}

-- neither the later literal nor a sign
pub literal_kind : (k : Kind) → (k ≡ Kind.Later → ⊥) → ((s : Sign) → k ≡ Kind.Symbol s → ⊥) → (k ≡ Kind.Colon → ⊥) → (k ≡ Kind.TwoColons → ⊥) → literal (class_kind k) ≡ true
literal_kind Kind.Ignorance l s c n = refl
literal_kind (Kind.Boolean b) l s c n = refl
literal_kind (Kind.Integer b) l s c n = refl
literal_kind Kind.Fraction l s c n = refl
literal_kind Kind.Bits l s c n = refl
literal_kind Kind.Blob l s c n = refl
literal_kind (Kind.Text f) l s c n = refl
literal_kind Kind.Later l s c n = absurd (l refl)
literal_kind (Kind.Symbol x) l s c n = absurd (s x refl)
literal_kind Kind.Colon l s c n = absurd (c refl)
literal_kind Kind.TwoColons l s c n = absurd (n refl)

-- a sign that opens no bracket
pub sign_mark : (s : Sign) → (s ≡ Sign.RoundOpen → ⊥) → (s ≡ Sign.CurlyOpen → ⊥) → (s ≡ Sign.SquareOpen → ⊥) → (m : Mark) × (class_sign s ≡ Tokens.mark m)
sign_mark Sign.RoundOpen r c q = absurd (r refl)
sign_mark Sign.RoundClose r c q = (Tokens.round_close, refl)
sign_mark Sign.CurlyOpen r c q = absurd (c refl)
sign_mark Sign.CurlyClose r c q = (Tokens.curly_close, refl)
sign_mark Sign.SquareOpen r c q = absurd (q refl)
sign_mark Sign.SquareClose r c q = (Tokens.square_close, refl)
sign_mark Sign.Comma r c q = (Tokens.comma, refl)
sign_mark Sign.ArrowRight r c q = (Tokens.right_arrow, refl)
sign_mark Sign.ArrowLeft r c q = (Tokens.left_arrow, refl)
sign_mark Sign.Dots r c q = (Tokens.dots, refl)
sign_mark (Sign.Star a b) r c q = (Tokens.star _ _, refl)

-- ---- `)`

pub close_class_lem : (k : Class) → is_close_of k ≡ true → k ≡ Tokens.mark Tokens.round_close
close_class_lem (Tokens.atom a) e = absurd (false≢true e)
close_class_lem (Tokens.text w) e = absurd (false≢true e)
close_class_lem Tokens.names e = absurd (false≢true e)
close_class_lem Tokens.round e = absurd (false≢true e)
close_class_lem Tokens.curly e = absurd (false≢true e)
close_class_lem Tokens.square e = absurd (false≢true e)
close_class_lem (Tokens.mark Tokens.round_close) e = refl
close_class_lem (Tokens.mark Tokens.curly_close) e = absurd (false≢true e)
close_class_lem (Tokens.mark Tokens.square_close) e = absurd (false≢true e)
close_class_lem (Tokens.mark Tokens.comma) e = absurd (false≢true e)
close_class_lem (Tokens.mark Tokens.colon) e = absurd (false≢true e)
close_class_lem (Tokens.mark Tokens.right_arrow) e = absurd (false≢true e)
close_class_lem (Tokens.mark Tokens.left_arrow) e = absurd (false≢true e)
close_class_lem (Tokens.mark Tokens.dots) e = absurd (false≢true e)
close_class_lem (Tokens.mark (Tokens.star a c)) e = absurd (false≢true e)
close_class_lem Tokens.later e = absurd (false≢true e)
