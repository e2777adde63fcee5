-- Tokens are well-formed UTF-8, and so they are made bare. Assumes nothing.
use mathlib.Core.Path.{◌≡◌, refl, sym, subst, ap, ◌∙◌}
use mathlib.Core.Bool.{true}
use mathlib.Core.List.{List, [], ◌∷◌, ◌++◌, append_assoc, append-nil}
use Prim.Native.Nat.{ℕ}
use Rattle.rules.specs.Class.{In, has, ◌upto◌}
use Rattle.rules.specs.Rule.{Rule, one, ◌then◌, ◌or◌, many, opt, lit}
use Rattle.rules.specs.Plain.{Matches, no_byte, one_byte, joined, in_left, in_right, no_more, one_more}
use Rattle.rules.proofs.Bounds.{all_of, all_of_lem}
use Rattle.rules.proofs.Plain.{takes_whole}
use Rattle.rules.proofs.Classes.{includes, in_some, includes_in}
use Rattle.rules.proofs.Bools.{and_left, and_right}
use Rattle.lexicon.specs.declared.Bound.TheVariants.{Open, Less, LessEqual}
use Rattle.lexicon.specs.declared.Sign.{Sign}
use Rattle.lexicon.specs.declared.Sign.TheVariants.{RoundOpen, RoundClose, CurlyOpen, CurlyClose, SquareOpen, SquareClose, Comma, ArrowRight, ArrowLeft, Dots, Star}
use Rattle.lexicon.specs.Space.{sp}
use Rattle.lexicon.specs.Utf8.{sequence}
use Rattle.lexicon.specs.Symbols.{symbol}
use Rattle.lexicon.specs.Literals.{segment, content, above9_f, unescaped, restricted, escape}
use Rattle.lexicon.specs.Literals.{quoted as quoted-rule}
use Rattle.lexicon.proofs.Formed.{ascii}
use Rattle.form.specs.Bare.{bare}
use Rattle.form.proofs.Fits.{all_in}
use Rattle.form.proofs.Strip.{segment_same, bare_nil}
use Rattle.form.proofs.Bounded.{inner}
use Rattle.form.proofs.Digit.{opt_space_gone}

abbrev pub Formed : List ℕ → Type 0
Formed a = Matches (many sequence) a

pub formed_join : {a b : List ℕ} → Formed a → Formed b → Formed (a ++ b)
formed_join no_more m = m
formed_join {b = d} (one_more {a = a} {b = c} x m) n = subst Formed (sym (append_assoc a c d)) (one_more x (formed_join m n))

formed_one : {a : List ℕ} → Matches sequence a → Formed a
formed_one {a} m = subst Formed (append-nil a) (one_more m no_more)

-- ---- ASCII

ascii_byte : (b : ℕ) → In ascii b → Formed (b ∷ [])
ascii_byte b i = formed_one (in_left (one_byte i))

ascii_run : {a : List ℕ} → Matches (many (one ascii)) a → Formed a
ascii_run no_more = no_more
ascii_run (one_more (one_byte {b = b} i) m) = formed_join (ascii_byte b i) (ascii_run m)

ascii_formed : (r : Rule) {a : List ℕ} → all_of ascii r ≡ true → Matches r a → Formed a
ascii_formed r {a} e m = ascii_run ((takes_whole (many (one ascii)) a).0 (all_of_lem ascii ((takes_whole r a).1 m) e))

inner_ascii : includes inner ascii ≡ true
unfolding includes in_some
inner_ascii = refl

-- bytes of literals
pub inner_formed : (a : List ℕ) → all_in inner a ≡ true → Formed a
unfolding all_in
inner_formed [] e = no_more
inner_formed (b ∷ a) e = one_more (in_left (one_byte (includes_in inner ascii b inner_ascii (and_left (has inner b) _ e))))
    (inner_formed a (and_right (has inner b) _ e))

sign_ascii : (s : Sign) → all_of ascii (symbol s) ≡ true
unfolding includes in_some
sign_ascii RoundOpen = refl
sign_ascii RoundClose = refl
sign_ascii CurlyOpen = refl
sign_ascii CurlyClose = refl
sign_ascii SquareOpen = refl
sign_ascii SquareClose = refl
sign_ascii Comma = refl
sign_ascii ArrowRight = refl
sign_ascii ArrowLeft = refl
sign_ascii Dots = refl
sign_ascii (Star Open Open) = refl
sign_ascii (Star Open Less) = refl
sign_ascii (Star Open LessEqual) = refl
sign_ascii (Star Less Open) = refl
sign_ascii (Star Less Less) = refl
sign_ascii (Star Less LessEqual) = refl
sign_ascii (Star LessEqual Open) = refl
sign_ascii (Star LessEqual Less) = refl
sign_ascii (Star LessEqual LessEqual) = refl

pub sign_formed : (s : Sign) {a : List ℕ} → Matches (symbol s) a → Formed a
sign_formed s m = ascii_formed (symbol s) (sign_ascii s) m

pub colon_formed : Formed (0x3A ∷ [])
unfolding has
colon_formed = ascii_byte 0x3A refl

-- ---- quotes

quote_ascii : all_of ascii (lit "\"") ≡ true
unfolding includes in_some
quote_ascii = refl

slash_ascii : all_of ascii (lit "\\") ≡ true
unfolding includes in_some
slash_ascii = refl

escape_ascii : all_of ascii escape ≡ true
unfolding includes in_some
escape_ascii = refl

first_formed : (a : List ℕ) → Matches above9_f a → Formed a
unfolding includes in_some
first_formed _ (in_left (joined (one_byte {b = b} i) (one_byte {b = c} j))) =
    formed_one (in_right (in_left (joined (one_byte (includes_in (0xC2 upto 0xC2 ∷ []) (0xC2 upto 0xDF ∷ []) b refl i))
    (one_byte (includes_in (0xA0 upto 0xBF ∷ []) (0x80 upto 0xBF ∷ []) c refl j)))))
first_formed _ (in_right (in_left (joined (one_byte {b = b} i) m))) =
    formed_one (in_right (in_left (joined (one_byte (includes_in (0xC3 upto 0xDF ∷ []) (0xC2 upto 0xDF ∷ []) b refl i)) m)))
first_formed _ (in_right (in_right m)) = formed_one (in_right (in_right m))

plain_formed : {a : List ℕ} → Matches unescaped a → Formed a
unfolding includes in_some
plain_formed (in_left (one_byte {b = b} i)) = ascii_byte b (includes_in (0x20 upto 0x21 ∷ 0x23 upto 0x5B ∷ 0x5D upto 0x5F ∷ 0x61 upto 0x7F ∷ []) ascii b refl i)
plain_formed {a} (in_right m) = first_formed a m

restricted_formed : {a : List ℕ} → Matches (many restricted) a → Formed a
restricted_formed no_more = no_more
restricted_formed (one_more (in_left m) n) = formed_join (plain_formed m) (restricted_formed n)
restricted_formed (one_more (in_right m) n) = formed_join (ascii_formed (lit "\\") slash_ascii m) (restricted_formed n)

escaped_formed : {a : List ℕ} → Matches (many (unescaped or escape)) a → Formed a
escaped_formed no_more = no_more
escaped_formed (one_more (in_left m) n) = formed_join (plain_formed m) (escaped_formed n)
escaped_formed (one_more (in_right m) n) = formed_join (ascii_formed escape escape_ascii m) (escaped_formed n)

content_formed : {a : List ℕ} → Matches content a → Formed a
content_formed (in_left (in_left (joined m n))) = formed_join (plain_formed m) (restricted_formed n)
content_formed (in_left (in_right no_byte)) = no_more
content_formed (in_right (joined m n)) = formed_join (ascii_formed (lit "\\") slash_ascii m) (escaped_formed n)

pub segment_formed : {a : List ℕ} → Matches segment a → Formed a
segment_formed (joined m (joined n k)) =
    formed_join (ascii_formed (lit "\"") quote_ascii m) (formed_join (content_formed n) (ascii_formed (lit "\"") quote_ascii k))

row_formed : {a : List ℕ} → Matches (many (opt sp then segment)) a → Formed (bare a)
row_formed no_more = subst Formed (sym bare_nil) no_more
row_formed (one_more {b = r} (joined {a = z} {b = g} mz mg) n) =
    subst Formed (sym (ap bare (append_assoc z g r) ∙ opt_space_gone (g ++ r) mz ∙ segment_same r mg)) (formed_join (segment_formed mg) (row_formed n))

-- a quoted Text, made bare
pub quoted_formed : {a : List ℕ} → Matches quoted-rule a → Formed (bare a)
quoted_formed (joined {a = s} {b = r} ms mr) = subst Formed (sym (segment_same r ms)) (formed_join (segment_formed ms) (row_formed mr))
