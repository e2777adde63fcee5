-- The plain form of a moved tree in another text: the same, if each of its tokens that is spelled from the text is spelled alike there.
-- Assumes nothing.
use mathlib.Core.Path.{◌≡◌, refl, sym, ap}
use mathlib.Core.List.{List, []}
use Prim.Native.Nat.{ℕ}
use Rattle.rules.specs.Every.{Every}
use Rattle.rules.proofs.Every.{every_first as first_of, every_rest as rest_of}
use Rattle.grammar.specs.Tokens.{Span, Class, Wording, Spelling, Tok, atom, text, names, round, curly, square, mark, later, spelled, quoted, word, code_point_of, head_word}
use Rattle.grammar.specs.Tree
use Rattle.grammar.specs.Tree.{Names, one_name, more_names, PlainName, text_name, nesting_name, Name, plain_name, bare_name, Arrow, rightward, leftward, Joiner, Measure, Count, number, truth, Style, Value, Plain, Item, Row, Listing, Attributes, Bounds}
use Rattle.grammar.specs.Yield.{yield_names, yield_plain_name, yield_name, yield_count, yield_value, yield_plain, yield_item, yield_row, yield_listing, yield_attributes, yield_bounds}
use Rattle.grammar.proofs.Moved.{move_span, move_names, move_plain_name, move_name, move_count, move, move_plain, move_item, move_row, move_listing, move_attributes, move_bounds}
use Rattle.form.specs.Bare.{bare}
use Rattle.form.specs.Spell.{Spelt, put, bytes_of, quoted_bytes, either, joiner, after_one, part, spell_text, spell_wording, spell_names, spell_plain_name, spell_name, spell_count, spell, spell_plain, spell_item, spell_row, spell_listing, spell_attributes, spell_bounds, plain_form}

-- bytes that are spelled alike as a token of the class: literals and quoted Texts made bare, words and code points as they stand; signs have
-- bytes of their own
abbrev pub SpeltAlike : Class → List ℕ → List ℕ → Type 0
SpeltAlike (atom a) b c = bare b ≡ bare c
SpeltAlike (text (spelled quoted)) b c = bare b ≡ bare c
SpeltAlike (text (spelled word)) b c = b ≡ c
SpeltAlike (text (spelled code_point_of)) b c = b ≡ c
SpeltAlike (text (head_word h)) b c = b ≡ c
SpeltAlike names b c = Unit {0}
SpeltAlike round b c = Unit {0}
SpeltAlike curly b c = Unit {0}
SpeltAlike square b c = Unit {0}
SpeltAlike (mark m) b c = Unit {0}
SpeltAlike later b c = Unit {0}

-- a token of a text, and the bytes in another text that stand where it is moved to
pub record MovedAlike (bytes other : List ℕ) (g : ℕ → ℕ) (t : Tok) : Type 0 where
  pub alike : SpeltAlike t.class (part bytes t.at) (part other (move_span g t.at))

-- one token more, spelled from bytes that are the same
more : {c : Class} {b d : List ℕ} {p q : List Spelt} → b ≡ d → p ≡ q → put c b p ≡ put c d q
more {c} e f = λ i. put c (e i) (f i)

-- what is put before is the same
abbrev Same : (List Spelt → List Spelt) → (List Spelt → List Spelt) → Type 0
Same f h = (p q : List Spelt) → p ≡ q → f p ≡ h q

either_same : (a : Arrow) (f g h i : List Spelt → List Spelt) → Same f h → Same g i → Same (either a f g) (either a h i)
either_same rightward f g h i x y p q e = x _ _ (more refl (y p q e))
either_same leftward f g h i x y p q e = y _ _ (more refl (x p q e))

joiner_same : (j : Joiner) (f g h i : List Spelt → List Spelt) → Same f h → Same g i → Same (joiner j f g) (joiner j h i)
joiner_same Tree.colon f g h i x y p q e = x _ _ (more refl (y p q e))
joiner_same (Tree.arrow a) f g h i x y p q e = either_same a f g h i x y p q e

module _ (bytes other : List ℕ) (g : ℕ → ℕ) where
  abbrev Alike : List Tok → Type 0
  Alike ts = Every (MovedAlike bytes other g) ts

  one_same : {f s : Style} (o : Row f s) → Same (after_one (move_row g o)) (after_one o)
  one_same (Tree.row_first i c) p q e = more refl e
  one_same (Tree.row_led b i c) p q e = more refl e
  one_same (Tree.row_next o i c) p q e = e

  -- what is put before is the same; and the tokens behind are alike
  record Split (f h : List Spelt → List Spelt) (r : List Tok) : Type 0 where
    same : Same f h
    rest : Alike r

  -- ---- Texts

  text_same : (x : Spelling) (s : Span) → SpeltAlike (text (spelled x)) (part bytes s) (part other (move_span g s)) → Same (spell_text other x (move_span g s)) (spell_text bytes x s)
  text_same quoted s a p q e = more (sym a) e
  text_same word s a p q e = more (sym a) e
  text_same code_point_of s a p q e = more (sym a) e

  wording_same : (x : Wording) (s : Span) → SpeltAlike (text x) (part bytes s) (part other (move_span g s)) → Same (spell_wording other x (move_span g s)) (spell_wording bytes x s)
  wording_same (spelled x) s a p q e = text_same x s a p q e
  wording_same (head_word h) s a p q e = more (ap quoted_bytes (sym a)) e

  names_split : (n : Names) (r : List Tok) → Alike (yield_names n r) → Split (spell_names other (move_names g n)) (spell_names bytes n) r
  names_split (one_name s x t) r ms =
      record { same = λ p q e. more refl (wording_same x t (first_of (rest_of ms)).alike p q e); rest = rest_of (rest_of ms) }
  names_split (more_names n s x t) r ms =
      let a = names_split n _ ms in
      record { same = λ p q e. a.same _ _ (more refl (wording_same x t (first_of (rest_of a.rest)).alike p q e)); rest = rest_of (rest_of a.rest) }

  plain_name_split : (n : PlainName) (r : List Tok) → Alike (yield_plain_name n r) → Split (spell_plain_name other (move_plain_name g n)) (spell_plain_name bytes n) r
  plain_name_split (text_name x s) r ms = record { same = text_same x s (first_of ms).alike; rest = rest_of ms }
  plain_name_split (nesting_name n) r ms = names_split n r ms

  name_split : (n : Name) (r : List Tok) → Alike (yield_name n r) → Split (spell_name other (move_name g n)) (spell_name bytes n) r
  name_split (plain_name n) r ms = plain_name_split n r ms
  name_split (bare_name h s) r ms = record { same = λ p q e. more (ap quoted_bytes (sym (first_of ms).alike)) e; rest = rest_of ms }

  count_split : {u : Measure} (c : Count u) (r : List Tok) → Alike (yield_count c r) → Split (spell_count other (move_count g c)) (spell_count bytes c) r
  count_split (number s) r ms = record { same = λ p q e. more (sym (first_of ms).alike) e; rest = rest_of ms }
  count_split (truth b s) r ms = record { same = λ p q e. more (sym (first_of ms).alike) e; rest = rest_of ms }

  -- ---- values

  mutual
    value_split : (v : Value) (r : List Tok) → Alike (yield_value v r) → Split (spell other (move g v)) (spell bytes v) r
    value_split (Tree.plain p) r ms = plain_split p r ms
    value_split (Tree.bare h s) r ms = record { same = λ p q e. more (ap quoted_bytes (sym (first_of ms).alike)) e; rest = rest_of ms }

    plain_split : (p : Plain) (r : List Tok) → Alike (yield_plain p r) → Split (spell_plain other (move_plain g p)) (spell_plain bytes p) r
    plain_split (Tree.literal x s) r ms = record { same = λ p q e. more (sym (first_of ms).alike) e; rest = rest_of ms }
    plain_split (Tree.text x s) r ms = record { same = text_same x s (first_of ms).alike; rest = rest_of ms }
    plain_split (Tree.nesting n) r ms = names_split n r ms
    plain_split (Tree.group o v c) r ms = let a = value_split v _ (rest_of ms) in record { same = a.same; rest = rest_of a.rest }
    plain_split (Tree.pair o x k v c) r ms =
        let a = plain_split x _ (rest_of ms) in
        let b = value_split v _ (rest_of a.rest) in
        record { same = λ p q e. more refl (a.same _ _ (more refl (b.same _ _ (more refl e)))); rest = rest_of b.rest }
    plain_split (Tree.arrowed o v x k w c) r ms =
        let a = value_split v _ (rest_of ms) in
        let b = value_split w _ (rest_of a.rest) in
        record { same = λ p q e. more refl (either_same x _ _ _ _ a.same b.same _ _ (more refl e)); rest = rest_of b.rest }
    plain_split (Tree.tuple o i c) r ms =
        let a = attributes_split i _ (rest_of ms) in record { same = λ p q e. more refl (a.same _ _ (more refl e)); rest = rest_of a.rest }
    plain_split (Tree.lot o i c) r ms =
        let a = listing_split i _ (rest_of ms) in record { same = λ p q e. more refl (a.same _ _ (more refl e)); rest = rest_of a.rest }
    plain_split (Tree.counted o h s k b i x c) r ms =
        let a = listing_split i _ (rest_of (rest_of (rest_of (rest_of ms)))) in
        record {
          same = λ p q e. more refl (more refl (more refl (more refl (a.same _ _ (more refl (more refl e))))));
          rest = rest_of (rest_of a.rest);
        }
    plain_split (Tree.interval o b c) r ms =
        let a = bounds_split b _ (rest_of ms) in record { same = λ p q e. more refl (a.same _ _ (more refl e)); rest = rest_of a.rest }

    item_split : {s : Style} (i : Item s) (r : List Tok) → Alike (yield_item i r) → Split (spell_item other (move_item g i)) (spell_item bytes i) r
    item_split (Tree.alone v) r ms = value_split v r ms
    item_split (Tree.open_named n k v) r ms =
        let a = plain_name_split n _ ms in
        let b = value_split v _ (rest_of a.rest) in
        record { same = λ p q e. a.same _ _ (more refl (b.same p q e)); rest = b.rest }
    item_split (Tree.named n k v) r ms =
        let a = name_split n _ ms in
        let b = value_split v _ (rest_of a.rest) in
        record { same = λ p q e. a.same _ _ (more refl (b.same p q e)); rest = b.rest }
    item_split (Tree.joined v j k w) r ms =
        let a = value_split v _ ms in
        let b = value_split w _ (rest_of a.rest) in
        record { same = λ p q e. joiner_same j _ _ _ _ a.same b.same p q e; rest = b.rest }
    item_split (Tree.times v k c) r ms =
        let a = value_split v _ ms in
        let b = count_split c _ (rest_of a.rest) in
        record { same = λ p q e. a.same _ _ (more refl (b.same p q e)); rest = b.rest }

    row_split : {f s : Style} (o : Row f s) (r : List Tok) → Alike (yield_row o r) → Split (spell_row other (move_row g o)) (spell_row bytes o) r
    row_split (Tree.row_first i c) r ms = let a = item_split i _ ms in record { same = a.same; rest = rest_of a.rest }
    row_split (Tree.row_led b i c) r ms = let a = item_split i _ (rest_of ms) in record { same = a.same; rest = rest_of a.rest }
    row_split (Tree.row_next o i c) r ms =
        let a = row_split o _ ms in
        let b = item_split i _ a.rest in
        record { same = λ p q e. a.same _ _ (more refl (b.same p q e)); rest = rest_of b.rest }

    listing_split : {s : Style} (i : Listing s) (r : List Tok) → Alike (yield_listing i r) → Split (spell_listing other (move_listing g i)) (spell_listing bytes i) r
    listing_split Tree.no_item r ms = record { same = λ p q e. e; rest = ms }
    listing_split (Tree.one_comma c) r ms = record { same = λ p q e. e; rest = rest_of ms }
    listing_split (Tree.two_commas c d) r ms = record { same = λ p q e. e; rest = rest_of (rest_of ms) }
    listing_split (Tree.one_item i) r ms = item_split i _ ms
    listing_split (Tree.led_item c i) r ms = item_split i _ (rest_of ms)
    listing_split (Tree.trailing o) r ms = row_split o _ ms
    listing_split (Tree.last_item o i) r ms =
        let a = row_split o _ ms in
        let b = item_split i _ a.rest in
        record { same = λ p q e. a.same _ _ (more refl (b.same p q e)); rest = b.rest }

    attributes_split : (i : Attributes) (r : List Tok) → Alike (yield_attributes i r) → Split (spell_attributes other (move_attributes g i)) (spell_attributes bytes i) r
    attributes_split Tree.no_attribute r ms = record { same = λ p q e. e; rest = ms }
    attributes_split (Tree.led_attribute c i) r ms =
        let a = item_split i _ (rest_of ms) in record { same = λ p q e. a.same _ _ (more refl e); rest = a.rest }
    attributes_split (Tree.trailing_comma o) r ms =
        let a = row_split o _ ms in record { same = λ p q e. a.same _ _ (one_same o p q e); rest = a.rest }
    attributes_split (Tree.last_attribute o i) r ms =
        let a = row_split o _ ms in
        let b = item_split i _ a.rest in
        record { same = λ p q e. a.same _ _ (more refl (b.same p q e)); rest = b.rest }

    bounds_split : (b : Bounds) (r : List Tok) → Alike (yield_bounds b r) → Split (spell_bounds other (move_bounds g b)) (spell_bounds bytes b) r
    bounds_split Tree.empty r ms = record { same = λ p q e. e; rest = ms }
    bounds_split (Tree.single v) r ms = value_split v _ ms
    bounds_split (Tree.between v x k w) r ms =
        let a = value_split v _ ms in
        let b = value_split w _ (rest_of a.rest) in
        record { same = λ p q e. a.same _ _ (more refl (b.same p q e)); rest = b.rest }
    bounds_split (Tree.from v x k) r ms =
        let a = value_split v _ ms in record { same = λ p q e. a.same _ _ (more refl e); rest = rest_of a.rest }
    bounds_split (Tree.up_to x k v) r ms =
        let a = value_split v _ (rest_of ms) in record { same = λ p q e. more refl (a.same p q e); rest = a.rest }
    bounds_split (Tree.all k) r ms = record { same = λ p q e. more refl e; rest = rest_of ms }

  -- the plain form is the same
  pub same_plain : (v : Value) → Every (MovedAlike bytes other g) (yield_value v []) → plain_form other (move g v) ≡ plain_form bytes v
  same_plain v ms = ap bytes_of ((value_split v [] ms).same [] [] refl)
