-- The tokens of a text pay for those of its plain form: so it is at most twice as long. Assumes nothing.
use mathlib.Core.Path.{◌≡◌, refl, sym, ap, ◌∙◌}
use mathlib.Core.Bool.{Bool, true, false, cond}
use mathlib.Core.List.{List, [], ◌∷◌, ◌++◌, append_assoc}
use Prim.Native.Nat.{ℕ, suc, ◌+◌, ◌*◌, ◌-◌, ◌≤◌}
use native.Mathlib.Omega.{arith}
use lib.ListN.{length, length-append, length-take}
use Rattle.rules.specs.Class.{codes}
use Rattle.rules.specs.Plain.{Matches, joined, between}
use Rattle.rules.proofs.Plain.{plain, row_matches}
use Rattle.lexicon.specs.declared.Bound.{Bound}
use Rattle.lexicon.specs.declared.Head.{Head}
use Rattle.lexicon.specs.declared.Head.TheVariants.{Array, Set, Bag, Mix, IntervalSet, IntervalBag, TupleArray, Relation, TupleBag, Article, Excuse, Heading, Renaming}
use Rattle.lexicon.specs.declared.Sign.TheVariants.{Star}
use Rattle.lexicon.specs.Symbols.{side, symbol}
use Rattle.lexicon.specs.Token.{head_word}
use Rattle.lexicon.proofs.Pieces.{token_within}
use Rattle.grammar.specs.Tokens
use Rattle.grammar.specs.Tokens.{Span, Class, Mark, Tok, Wording, spelled, mark, names, round, curly, square, atom}
use Rattle.grammar.specs.Tree.{Value}
use Rattle.grammar.specs.Level.{Level}
use Rattle.reading.specs.declared.Limits.{Limits}
use Rattle.reading.specs.Tokens.{Follow, nothing, next}
use Rattle.reading.specs.Answers.{Accepted}
use Rattle.reading.proofs.Rows.{comes_forward, row_forward}
use Rattle.reading.proofs.Derived.{accepted_derived}
use Rattle.form.specs.Bare.{Where, kept, behind, bare_from, outside}
use Rattle.form.specs.Spell.{Spelt, bytes_of, part, mark_bytes, spell, plain_form}
use Rattle.form.proofs.Pieces.{Piece, head_bytes}
use Rattle.form.proofs.Alone.{Pieces, nil, piece, derived_pieces}
use Rattle.form.proofs.Short.{long, cost, total, Fair, FairText, Fairs, spelled_long}

-- ---- bytes

cond_short : (c : Bool) (b n : ℕ) (x : List ℕ) → length x ≤ n → length (cond c (b ∷ x) x) ≤ suc n
cond_short true b n x h = omega (arith, h)
cond_short false b n x h = omega (arith, h)

bare_short : (w : Where) (bs : List ℕ) → length (bare_from w bs) ≤ length bs
unfolding bare_from
bare_short w [] = omega arith
bare_short w (b ∷ bs) = cond_short (kept w b) b (length bs) (bare_from (behind w b) bs) (bare_short (behind w b) bs)

part_short : (bytes : List ℕ) (s : Span) → length (part bytes s) ≤ s.end - s.first
unfolding between
part_short bytes s = simp length-take (omega arith)

pub head_two : (h : Head) → 2 ≤ length (codes (head_word h))
head_two Array = omega arith
head_two Set = omega arith
head_two Bag = omega arith
head_two Mix = omega arith
head_two IntervalSet = omega arith
head_two IntervalBag = omega arith
head_two TupleArray = omega arith
head_two Relation = omega arith
head_two TupleBag = omega arith
head_two Article = omega arith
head_two Excuse = omega arith
head_two Heading = omega arith
head_two Renaming = omega arith

three : (p q r x y z : List ℕ) → p ≡ x → q ≡ y → r ≡ z → p ++ (q ++ r) ≡ x ++ (y ++ z)
three p q r x y z e f g = λ i. e i ++ (f i ++ g i)

star_is : (a b : Bound) {x : List ℕ} → Matches (symbol (Star a b)) x → x ≡ mark_bytes (Tokens.star a b)
star_is a b (joined {a = p} m (joined {a = q} {b = r} n o)) =
    three p q r (codes (side a)) (codes "*") (codes (side b)) (row_matches (codes (side a)) m) (row_matches (codes "*") n) (row_matches (codes (side b)) o)
    ∙ sym (append_assoc (codes (side a)) (codes "*") (codes (side b)))

module _ (bytes : List ℕ) where
  -- bytes that a token's are cost no more
  same_short : (s : Span) (bs : List ℕ) → part bytes s ≡ bs → length bs ≤ cost s
  same_short s bs e = omega (arith, part_short bytes s, ap length e)

  text_fair : (w : Wording) (s : Span) → Piece bytes (Tokens.text w) s → FairText bytes w s
  text_fair (spelled Tokens.quoted) s p = omega (arith, part_short bytes s, bare_short outside (part bytes s))
  text_fair (spelled Tokens.word) s p = omega (arith, part_short bytes s)
  text_fair (spelled Tokens.code_point_of) s p = omega (arith, part_short bytes s)
  text_fair (Tokens.head_word h) s p =
      let e = head_bytes bytes h s p in (
        same_short s (codes (head_word h)) e,
        omega (arith, part_short bytes s, ap length e, head_two h, length-append (part bytes s) (codes "\"")),
      )

  mark_fair : (m : Mark) (s : Span) → Piece bytes (mark m) s → length (mark_bytes m) ≤ cost s
  mark_fair Tokens.round_close s p = same_short s _ (row_matches (codes ")") (plain bytes p.is.told.takes))
  mark_fair Tokens.curly_close s p = same_short s _ (row_matches (codes "}") (plain bytes p.is.told.takes))
  mark_fair Tokens.square_close s p = same_short s _ (row_matches (codes "]") (plain bytes p.is.told.takes))
  mark_fair Tokens.comma s p = same_short s _ (row_matches (codes ",") (plain bytes p.is.told.takes))
  mark_fair Tokens.colon s p = omega (arith, p.is.told.0)
  mark_fair Tokens.right_arrow s p = same_short s _ (row_matches (codes "->") (plain bytes p.is.told.takes))
  mark_fair Tokens.left_arrow s p = same_short s _ (row_matches (codes "<-") (plain bytes p.is.told.takes))
  mark_fair Tokens.dots s p = same_short s _ (row_matches (codes "..") (plain bytes p.is.told.takes))
  mark_fair (Tokens.star a b) s p = same_short s _ (star_is a b (plain bytes p.is.told.takes))

  fair : (c : Class) (s : Span) → Piece bytes c s → Fair bytes c s
  fair (atom a) s p = omega (arith, part_short bytes s, bare_short outside (part bytes s))
  fair (Tokens.text w) s p = text_fair w s p
  fair names s p = omega (arith, p.is.told.0)
  fair round s p = same_short s (codes "(") (row_matches (codes "(") (plain bytes p.is.told.takes))
  fair curly s p = same_short s (codes "{") (row_matches (codes "{") (plain bytes p.is.told.takes))
  fair square s p = same_short s (codes "[") (row_matches (codes "[") (plain bytes p.is.told.takes))
  fair (mark m) s p = mark_fair m s p
  fair Tokens.later s p = tt

  fairs : {ts : List Tok} → Pieces bytes ts → Fairs bytes ts
  fairs nil = tt
  fairs (piece {t} {ts} p ps) = (fair t.class t.at p, fairs ps)

  -- ---- the tokens stand one behind the other

  row_total : {p q : ℕ} {ts : List Tok} → Follow bytes p ts q → 2 * p + total ts ≤ 2 * q
  row_total nothing = omega arith
  row_total (next {t = t} c f) = omega (arith, comes_forward bytes c, row_forward bytes (next c nothing), row_total f)

  row_inside : {p q : ℕ} {ts : List Tok} → Follow bytes p ts q → p ≤ length bytes → q ≤ length bytes
  row_inside nothing h = h
  row_inside (next {t = t} c f) h = row_inside f (token_within bytes t.kind c.2)

  total_inside : {p q : ℕ} {ts : List Tok} → Follow bytes p ts q → total ts ≤ 2 * length bytes
  total_inside nothing = omega arith
  total_inside (next {t = t} c f) =
      let a = row_inside f (token_within bytes t.kind c.2) in
      omega (arith, a, row_total (next c f))

long_is : (ws : List Spelt) → long ws ≡ length (bytes_of ws)
long_is [] = refl
long_is (w ∷ ws) = omega (arith, long_is ws, length-append w.bytes (bytes_of ws))

-- the plain form is at most twice as long as the text
pub plain_short : (limits : Limits) (l : Level) (text : List ℕ) (v : Value) → Accepted limits text l v → length (plain_form text v) ≤ 2 * length text
plain_short limits l text v a =
    let d = accepted_derived limits text a in
    let x = spelled_long text v (fairs text (derived_pieces limits l text v d)) in
    let y = total_inside text d.row in
    omega (arith, x, y, long_is (spell text v []))
