-- The plain form has allowed neighbours only. Assumes nothing.
use mathlib.Core.Path.{◌≡◌, refl}
use mathlib.Core.Bool.{Bool, true, false, false≢true}
use mathlib.Core.List.{List, [], ◌∷◌}
use Prim.Native.Nat.{ℕ}
use Rattle.rules.specs.Class.{codes}
use Rattle.rules.proofs.Bools.{and_both}
use Rattle.lexicon.specs.declared.Bound.TheVariants.{Open, Less, LessEqual}
use Rattle.lexicon.specs.Token.{head_word}
use Rattle.grammar.specs.Tokens
use Rattle.grammar.specs.Tokens.{Span, Class, Wording, Spelling, Atom, atom, names, round, curly, square, mark, later, spelled, quoted, word, code_point_of}
use Rattle.grammar.specs.Tree
use Rattle.grammar.specs.Tree.{Names, one_name, more_names, PlainName, text_name, nesting_name, Name, plain_name, bare_name, Arrow, rightward, leftward, Joiner, Measure, Count, number, truth, Side, Between, Style, Value, Plain, Item, Row, Listing, Attributes, Bounds}
use Rattle.grammar.specs.Yield.{between_mark, side_bound, collection_head}
use Rattle.form.specs.Spell.{Spelt, put, sign, comma, either, joiner, spell_text, in_quotes, spell_wording, spell_names, spell_plain_name, spell_name, spell_count, after_one, spell, spell_plain, spell_item, spell_row, spell_listing, spell_attributes, spell_bounds}
use Rattle.form.proofs.Neighbours.{closing, allowed, neighbours}

-- what begins a value
abbrev starter : Class → Bool
starter (atom a) = true
starter (Tokens.text w) = true
starter names = true
starter round = true
starter curly = true
starter square = true
starter (mark m) = false
starter later = false

-- spelled tokens that may stand behind a value, and some that begin with one
pub data Rest : List Spelt → Type 0 where
  nil : Rest []
  cons : {w : Spelt} {ws : List Spelt} → closing w.class ≡ true → neighbours (w ∷ ws) ≡ true → Rest (w ∷ ws)

pub data Good : List Spelt → Type 0 where
  good : {w : Spelt} {ws : List Spelt} → starter w.class ≡ true → neighbours (w ∷ ws) ≡ true → Good (w ∷ ws)

pub rest_fine : {r : List Spelt} → Rest r → neighbours r ≡ true
rest_fine nil = refl
rest_fine (cons e n) = n

pub good_fine : {r : List Spelt} → Good r → neighbours r ≡ true
good_fine (good e n) = n

-- ---- one before others

pub literal_next : (a : Atom) (bs : List ℕ) {r : List Spelt} → Rest r → Good (put (atom a) bs r)
literal_next a bs nil = good refl refl
literal_next a bs (cons {w} e n) = good refl (and_both (closing w.class) _ e n)

pub text_next : (x : Wording) (bs : List ℕ) {r : List Spelt} → Rest r → Good (put (Tokens.text x) bs r)
text_next x bs nil = good refl refl
text_next x bs (cons {w} e n) = good refl (and_both (closing w.class) _ e n)

-- one that anything may follow, and one that any value may follow: neighbours are judged by their classes, so that no goal tells the bytes
pub free_next : (c : Class) (bs : List ℕ) → ((d : Class) → allowed c d ≡ true) → (s : List Spelt) → neighbours s ≡ true → neighbours (put c bs s) ≡ true
free_next c bs f [] n = refl
free_next c bs f (w ∷ ws) n = and_both (allowed c w.class) _ (f w.class) n

lead_next : (c : Class) (bs : List ℕ) → ((d : Class) → starter d ≡ true → allowed c d ≡ true) → {s : List Spelt} → Good s → neighbours (put c bs s) ≡ true
lead_next c bs f (good {w} e n) = and_both (allowed c w.class) _ (f w.class e) n

pub bracket : (c : Class) (bs : List ℕ) → starter c ≡ true → ((d : Class) → allowed c d ≡ true) → (s : List Spelt) → neighbours s ≡ true → Good (put c bs s)
bracket c bs e f s n = good e (free_next c bs f s n)

pub colon_rest : {s : List Spelt} → Good s → Rest (sign Tokens.colon s)
colon_rest g = cons refl (lead_next (mark Tokens.colon) [] ok g)
  where
    ok : (d : Class) → starter d ≡ true → allowed (mark Tokens.colon) d ≡ true
    ok (atom a) e = refl
    ok (Tokens.text w) e = refl
    ok names e = refl
    ok round e = refl
    ok curly e = refl
    ok square e = refl
    ok (mark m) e = absurd (false≢true e)
    ok later e = absurd (false≢true e)

pub comma_rest : (s : List Spelt) → neighbours s ≡ true → Rest (comma s)
comma_rest s n = cons refl (free_next (mark Tokens.comma) [] (λ d. refl) s n)

pub close_round_lem : (s : List Spelt) → neighbours s ≡ true → Rest (sign Tokens.round_close s)
close_round_lem s n = cons refl (free_next (mark Tokens.round_close) [] (λ d. refl) s n)

pub close_curly_lem : (s : List Spelt) → neighbours s ≡ true → Rest (sign Tokens.curly_close s)
close_curly_lem s n = cons refl (free_next (mark Tokens.curly_close) [] (λ d. refl) s n)

pub close_square_lem : (s : List Spelt) → neighbours s ≡ true → Rest (sign Tokens.square_close s)
close_square_lem s n = cons refl (free_next (mark Tokens.square_close) [] (λ d. refl) s n)

pub between_rest : (b : Between) {s : List Spelt} → Good s → Rest (sign (between_mark b) s)
between_rest Tree.two_dots {s} g = cons refl (free_next (mark Tokens.dots) [] (λ d. refl) s (good_fine g))
between_rest (Tree.star_sign Tree.less Tree.less) {s} g = cons refl (free_next (mark (Tokens.star Less Less)) [] (λ d. refl) s (good_fine g))
between_rest (Tree.star_sign Tree.less Tree.less_equal) {s} g = cons refl (free_next (mark (Tokens.star Less LessEqual)) [] (λ d. refl) s (good_fine g))
between_rest (Tree.star_sign Tree.less_equal Tree.less) {s} g = cons refl (free_next (mark (Tokens.star LessEqual Less)) [] (λ d. refl) s (good_fine g))
between_rest (Tree.star_sign Tree.less_equal Tree.less_equal) {s} g = cons refl (free_next (mark (Tokens.star LessEqual LessEqual)) [] (λ d. refl) s (good_fine g))

pub from_rest : (a : Side) (s : List Spelt) → neighbours s ≡ true → Rest (sign (Tokens.star (side_bound a) Open) (sign Tokens.square_close s))
from_rest Tree.less s n = cons refl (rest_fine (close_square_lem s n))
from_rest Tree.less_equal s n = cons refl (rest_fine (close_square_lem s n))

pub upto_fine : (a : Side) {s : List Spelt} → Good s → neighbours (sign (Tokens.star Open (side_bound a)) s) ≡ true
upto_fine Tree.less {s} g = free_next (mark (Tokens.star Open Less)) [] (λ d. refl) s (good_fine g)
upto_fine Tree.less_equal {s} g = free_next (mark (Tokens.star Open LessEqual)) [] (λ d. refl) s (good_fine g)

-- this, `:`, that
joined_good : (f g : List Spelt → List Spelt) → ((r : List Spelt) → Rest r → Good (f r)) → ((r : List Spelt) → Rest r → Good (g r)) → (r : List Spelt) →
    Rest r → Good (f (sign Tokens.colon (g r)))
joined_good f g x y r h = x _ (colon_rest (y r h))

either_good : (a : Arrow) (f g : List Spelt → List Spelt) → ((r : List Spelt) → Rest r → Good (f r)) → ((r : List Spelt) → Rest r → Good (g r)) →
    (r : List Spelt) → Rest r → Good (either a f g r)
either_good rightward f g x y r h = joined_good f g x y r h
either_good leftward f g x y r h = joined_good g f y x r h

joiner_good : (j : Joiner) (f g : List Spelt → List Spelt) → ((r : List Spelt) → Rest r → Good (f r)) → ((r : List Spelt) → Rest r → Good (g r)) →
    (r : List Spelt) → Rest r → Good (joiner j f g r)
joiner_good Tree.colon f g x y r h = joined_good f g x y r h
joiner_good (Tree.arrow a) f g x y r h = either_good a f g x y r h

module _ (bytes : List ℕ) where
  -- ---- Texts

  text_good : (w : Spelling) (s : Span) (r : List Spelt) → Rest r → Good (spell_text bytes w s r)
  text_good quoted s r h = text_next (spelled quoted) _ h
  text_good word s r h = text_next (spelled word) _ h
  text_good code_point_of s r h = text_next (spelled code_point_of) _ h

  quotes_good : (s : Span) (r : List Spelt) → Rest r → Good (in_quotes bytes s r)
  quotes_good s r h = text_next (spelled quoted) _ h

  -- `::` and a Text
  name_good : (w : Wording) (t : Span) (r : List Spelt) → Rest r → Good (put names (codes "::") (spell_wording bytes w t r))
  name_good (spelled quoted) t r h = good refl (good_fine (text_next (spelled quoted) [] h))
  name_good (spelled word) t r h = good refl (good_fine (text_next (spelled word) [] h))
  name_good (spelled code_point_of) t r h = good refl (good_fine (text_next (spelled code_point_of) [] h))
  name_good (Tokens.head_word x) t r h = good refl (good_fine (text_next (spelled quoted) [] h))

  name_rest : (ws : List Spelt) → Good (put names (codes "::") ws) → Rest (put names (codes "::") ws)
  name_rest ws (good e n) = cons refl n

  names_good : (n : Names) (r : List Spelt) → Rest r → Good (spell_names bytes n r)
  names_good (one_name s w t) r h = name_good w t r h
  names_good (more_names n s w t) r h = names_good n _ (name_rest _ (name_good w t r h))

  plain_name_good : (n : PlainName) (r : List Spelt) → Rest r → Good (spell_plain_name bytes n r)
  plain_name_good (text_name w s) r h = text_good w s r h
  plain_name_good (nesting_name n) r h = names_good n r h

  any_name_good : (n : Name) (r : List Spelt) → Rest r → Good (spell_name bytes n r)
  any_name_good (plain_name n) r h = plain_name_good n r h
  any_name_good (bare_name x s) r h = quotes_good s r h

  count_good : {u : Measure} (c : Count u) (r : List Spelt) → Rest r → Good (spell_count bytes c r)
  count_good (number s) r h = literal_next _ _ h
  count_good (truth b s) r h = literal_next _ _ h

  one_rest : {f s : Style} (o : Row f s) (r : List Spelt) → Rest r → Rest (after_one o r)
  one_rest (Tree.row_first i c) r h = comma_rest r (rest_fine h)
  one_rest (Tree.row_led b i c) r h = comma_rest r (rest_fine h)
  one_rest (Tree.row_next o i c) r h = h

  -- ---- values

  mutual
    value_good : (v : Value) (r : List Spelt) → Rest r → Good (spell bytes v r)
    value_good (Tree.plain p) r h = plain_good p r h
    value_good (Tree.bare x s) r h = quotes_good s r h

    plain_good : (p : Plain) (r : List Spelt) → Rest r → Good (spell_plain bytes p r)
    plain_good (Tree.literal a s) r h = literal_next a _ h
    plain_good (Tree.text w s) r h = text_good w s r h
    plain_good (Tree.nesting n) r h = names_good n r h
    plain_good (Tree.group o v c) r h = value_good v r h
    plain_good (Tree.pair o p k v c) r h =
        bracket round _ refl (λ d. refl) _
        (good_fine (joined_good (λ x. spell_plain bytes p x) (λ x. spell bytes v x) (λ x i. plain_good p x i) (λ x i. value_good v x i) _
        (close_round_lem r (rest_fine h))))
    plain_good (Tree.arrowed o v a k w c) r h =
        bracket round _ refl (λ d. refl) _
        (good_fine (either_good a (λ x. spell bytes v x) (λ x. spell bytes w x) (λ x i. value_good v x i) (λ x i. value_good w x i) _
        (close_round_lem r (rest_fine h))))
    plain_good (Tree.tuple o l c) r h = bracket round _ refl (λ d. refl) _ (attributes_fine l _ (close_round_lem r (rest_fine h)))
    plain_good (Tree.lot o l c) r h = bracket curly _ refl (λ d. refl) _ (listing_fine l _ (close_curly_lem r (rest_fine h)))
    plain_good (Tree.counted o x s k b l e c) r h =
        let m = listing_fine l (sign Tokens.curly_close (sign Tokens.round_close r))
        (close_curly_lem (sign Tokens.round_close r) (rest_fine (close_round_lem r (rest_fine h)))) in
        let n = bracket curly (codes "{") refl (λ d. refl) (spell_listing bytes l (sign Tokens.curly_close (sign Tokens.round_close r))) m in
        bracket round _ refl (λ d. refl) _ (good_fine (text_next (Tokens.head_word (collection_head x)) (codes (head_word (collection_head x))) (colon_rest n)))
    plain_good (Tree.interval o b c) r h = bracket square _ refl (λ d. refl) _ (bounds_fine b r (rest_fine h))

    item_good : {s : Style} (i : Item s) (r : List Spelt) → Rest r → Good (spell_item bytes i r)
    item_good (Tree.alone v) r h = value_good v r h
    item_good (Tree.open_named n k v) r h = plain_name_good n _ (colon_rest (value_good v r h))
    item_good (Tree.named n k v) r h = any_name_good n _ (colon_rest (value_good v r h))
    item_good (Tree.joined v j k w) r h = joiner_good j (λ x. spell bytes v x) (λ x. spell bytes w x) (λ x i. value_good v x i) (λ x i. value_good w x i) r h
    item_good (Tree.times v k c) r h = value_good v _ (colon_rest (count_good c r h))

    row_good : {f s : Style} (o : Row f s) (r : List Spelt) → Rest r → Good (spell_row bytes o r)
    row_good (Tree.row_first i c) r h = item_good i r h
    row_good (Tree.row_led b i c) r h = item_good i r h
    row_good (Tree.row_next o i c) r h = row_good o _ (comma_rest _ (good_fine (item_good i r h)))

    listing_fine : {s : Style} (l : Listing s) (r : List Spelt) → Rest r → neighbours (spell_listing bytes l r) ≡ true
    listing_fine Tree.no_item r h = rest_fine h
    listing_fine (Tree.one_comma c) r h = rest_fine h
    listing_fine (Tree.two_commas c d) r h = rest_fine h
    listing_fine (Tree.one_item i) r h = good_fine (item_good i r h)
    listing_fine (Tree.led_item c i) r h = good_fine (item_good i r h)
    listing_fine (Tree.trailing o) r h = good_fine (row_good o r h)
    listing_fine (Tree.last_item o i) r h = good_fine (row_good o _ (comma_rest _ (good_fine (item_good i r h))))

    attributes_fine : (l : Attributes) (r : List Spelt) → Rest r → neighbours (spell_attributes bytes l r) ≡ true
    attributes_fine Tree.no_attribute r h = rest_fine h
    attributes_fine (Tree.led_attribute c i) r h = good_fine (item_good i _ (comma_rest r (rest_fine h)))
    attributes_fine (Tree.trailing_comma o) r h = good_fine (row_good o _ (one_rest o r h))
    attributes_fine (Tree.last_attribute o i) r h = good_fine (row_good o _ (comma_rest _ (good_fine (item_good i r h))))

    bounds_fine : (b : Bounds) (r : List Spelt) → neighbours r ≡ true → neighbours (spell_bounds bytes b (sign Tokens.square_close r)) ≡ true
    bounds_fine Tree.empty r n = rest_fine (close_square_lem r n)
    bounds_fine (Tree.single v) r n = good_fine (value_good v _ (close_square_lem r n))
    bounds_fine (Tree.between v b k w) r n = good_fine (value_good v _ (between_rest b (value_good w _ (close_square_lem r n))))
    bounds_fine (Tree.from v a k) r n = good_fine (value_good v _ (from_rest a r n))
    bounds_fine (Tree.up_to a k v) r n = upto_fine a (value_good v _ (close_square_lem r n))
    bounds_fine (Tree.all k) r n = rest_fine (close_square_lem r n)

  pub spelled_neighbours : (v : Value) → neighbours (spell bytes v []) ≡ true
  spelled_neighbours v = good_fine (value_good v [] nil)
