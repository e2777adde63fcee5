-- The plain form has no more bytes than the tokens of the derivation pay for, two a byte. Assumes nothing.
use mathlib.Core.List.{List, [], ◌∷◌}
use Prim.Native.Nat.{ℕ, ◌+◌, ◌*◌, ◌-◌, ◌≤◌}
use native.Mathlib.Omega.{arith}
use lib.ListN.{length}
use Rattle.rules.specs.Class.{codes}
use Rattle.lexicon.specs.declared.Bound.TheVariants.{Open}
use Rattle.lexicon.specs.Token.{head_word}
use Rattle.grammar.specs.Tokens
use Rattle.grammar.specs.Tokens.{Span, Class, Tok, tok, Wording, Spelling, spelled, quoted, word, code_point_of, mark, names, round, curly, square, atom}
use Rattle.grammar.specs.Tree
use Rattle.grammar.specs.Tree.{Names, one_name, more_names, PlainName, text_name, nesting_name, Name, plain_name, bare_name, Arrow, rightward, leftward, Joiner, Measure, Count, number, truth, Style, Value, Plain, Item, Row, Listing, Attributes, Bounds}
use Rattle.grammar.specs.Yield.{arrow_mark, joiner_mark, between_mark, side_bound, yield_names, yield_plain_name, yield_name, yield_count, yield_value, yield_plain, yield_item, yield_row, yield_listing, yield_attributes, yield_bounds}
use Rattle.grammar.specs.Yield as Yield
use Rattle.form.specs.Spell.{Spelt, quoted_bytes, put, sign, comma, either, joiner, part, mark_bytes, spell_text, spell_wording, spell_names, spell_plain_name, spell_name, spell_count, after_one, spell, spell_plain, spell_item, spell_row, spell_listing, spell_attributes, spell_bounds}
use Rattle.form.proofs.Spelts.{own}

-- how many bytes spelled tokens have
abbrev pub long : List Spelt → ℕ
long [] = 0
long (w ∷ ws) = length w.bytes + long ws

-- twice the bytes of a token
abbrev pub cost : Span → ℕ
cost s = 2 * (s.end - s.first)

abbrev pub total : List Tok → ℕ
total [] = 0
total (t ∷ ts) = cost t.at + total ts

module _ (bytes : List ℕ) where
  -- a token pays for its spelling; a head word also for its quotes
  abbrev pub FairText : Wording → Span → Type 0
  FairText (spelled x) s = length (own (Tokens.text (spelled x)) (part bytes s)) ≤ cost s
  FairText (Tokens.head_word h) s = (length (codes (head_word h)) ≤ cost s) × (length (quoted_bytes (part bytes s)) ≤ cost s)

  abbrev pub Fair : Class → Span → Type 0
  Fair (atom a) s = length (own (atom a) (part bytes s)) ≤ cost s
  Fair (Tokens.text w) s = FairText w s
  Fair names s = 2 ≤ cost s
  Fair round s = 1 ≤ cost s
  Fair curly s = 1 ≤ cost s
  Fair square s = 1 ≤ cost s
  Fair (mark m) s = length (mark_bytes m) ≤ cost s
  Fair Tokens.later s = Unit {0}

  abbrev pub Fairs : List Tok → Type 0
  Fairs [] = Unit {0}
  Fairs (t ∷ ts) = Fair t.class t.at × Fairs ts

  abbrev Pays : List Tok → List Tok → (List Spelt → List Spelt) → Type 0
  Pays ts r g = (q : List Spelt) → long (g q) + total r ≤ long q + total ts

  record Paid (ts r : List Tok) (g : List Spelt → List Spelt) : Type 0 where
    rest : Fairs r
    pays : Pays ts r g

  -- ---- names

  text_paid : (x : Spelling) (s : Span) (r : List Tok) → Fairs (tok (Tokens.text (spelled x)) s ∷ r) →
      Paid (tok (Tokens.text (spelled x)) s ∷ r) r (λ q. spell_text bytes x s q)
  text_paid quoted s r h = record { rest = h.1; pays = λ q. omega (arith, h.0) }
  text_paid word s r h = record { rest = h.1; pays = λ q. omega (arith, h.0) }
  text_paid code_point_of s r h = record { rest = h.1; pays = λ q. omega (arith, h.0) }

  wording_paid : (x : Wording) (s : Span) (r : List Tok) → Fairs (tok (Tokens.text x) s ∷ r) →
      Paid (tok (Tokens.text x) s ∷ r) r (λ q. spell_wording bytes x s q)
  wording_paid (spelled x) s r h = text_paid x s r h
  wording_paid (Tokens.head_word x) s r h = record { rest = h.1; pays = λ q. omega (arith, h.0.1) }

  names_paid : (n : Names) (r : List Tok) → Fairs (yield_names n r) → Paid (yield_names n r) r (λ q. spell_names bytes n q)
  names_paid (one_name s w t) r h =
      let a = wording_paid w t r h.1 in
      record { rest = a.rest; pays = λ q. omega (arith, h.0, a.pays q) }
  names_paid (more_names n s w t) r h =
      let b = names_paid n (tok names s ∷ tok (Tokens.text w) t ∷ r) h in
      let a = wording_paid w t r b.rest.1 in
      record { rest = a.rest; pays = λ q. omega (arith, b.rest.0, b.pays (put names (codes "::") (spell_wording bytes w t q)), a.pays q) }

  plain_name_paid : (n : PlainName) (r : List Tok) → Fairs (yield_plain_name n r) → Paid (yield_plain_name n r) r (λ q. spell_plain_name bytes n q)
  plain_name_paid (text_name x s) r h = text_paid x s r h
  plain_name_paid (nesting_name n) r h = names_paid n r h

  name_paid : (n : Name) (r : List Tok) → Fairs (yield_name n r) → Paid (yield_name n r) r (λ q. spell_name bytes n q)
  name_paid (plain_name n) r h = plain_name_paid n r h
  name_paid (bare_name x s) r h = record { rest = h.1; pays = λ q. omega (arith, h.0.1) }

  count_paid : {u : Measure} (c : Count u) (r : List Tok) → Fairs (yield_count c r) → Paid (yield_count c r) r (λ q. spell_count bytes c q)
  count_paid (number s) r h = record { rest = h.1; pays = λ q. omega (arith, h.0) }
  count_paid (truth b s) r h = record { rest = h.1; pays = λ q. omega (arith, h.0) }

  -- ---- two joined

  arrow_one : (a : Arrow) (k : Span) → length (mark_bytes (arrow_mark a)) ≤ cost k → 1 ≤ cost k
  arrow_one rightward k h = omega (arith, h)
  arrow_one leftward k h = omega (arith, h)

  joiner_one : (j : Joiner) (k : Span) → length (mark_bytes (joiner_mark j)) ≤ cost k → 1 ≤ cost k
  joiner_one Tree.colon k h = omega (arith, h)
  joiner_one (Tree.arrow a) k h = arrow_one a k h

  either_pays : (a : Arrow) (k : Span) (c : Class) (ts us r : List Tok) (f g : List Spelt → List Spelt) → 1 ≤ cost k → Pays ts (tok c k ∷ us) f → Pays us r g →
      Pays ts r (λ q. either a f g q)
  either_pays rightward k c ts us r f g h x y q = omega (arith, h, x (sign Tokens.colon (g q)), y q)
  either_pays leftward k c ts us r f g h x y q = omega (arith, h, y (sign Tokens.colon (f q)), x q)

  joiner_pays : (j : Joiner) (k : Span) (c : Class) (ts us r : List Tok) (f g : List Spelt → List Spelt) → 1 ≤ cost k → Pays ts (tok c k ∷ us) f →
      Pays us r g → Pays ts r (λ q. joiner j f g q)
  joiner_pays Tree.colon k c ts us r f g h x y q = omega (arith, h, x (sign Tokens.colon (g q)), y q)
  joiner_pays (Tree.arrow a) k c ts us r f g h x y q = either_pays a k c ts us r f g h x y q

  -- a row, with a comma behind its last item and without
  record Rowed (ts r : List Tok) (g : List Spelt → List Spelt) : Type 0 where
    rest : Fairs r
    with_comma : Pays ts r (λ q. g (comma q))
    without : Pays ts r g

  after_pays : {f s : Style} (o : Row f s) (ts r : List Tok) → Rowed ts r (λ q. spell_row bytes o q) → Pays ts r (λ q. spell_row bytes o (after_one o q))
  after_pays (Tree.row_first i c) ts r h q = h.with_comma q
  after_pays (Tree.row_led b i c) ts r h q = h.with_comma q
  after_pays (Tree.row_next o i c) ts r h q = h.without q

  -- ---- values

  mutual
    value_paid : (v : Value) (r : List Tok) → Fairs (yield_value v r) → Paid (yield_value v r) r (λ q. spell bytes v q)
    value_paid (Tree.plain p) r h = plain_paid p r h
    value_paid (Tree.bare x s) r h = record { rest = h.1; pays = λ q. omega (arith, h.0.1) }

    plain_paid : (p : Plain) (r : List Tok) → Fairs (yield_plain p r) → Paid (yield_plain p r) r (λ q. spell_plain bytes p q)
    plain_paid (Tree.literal a s) r h = record { rest = h.1; pays = λ q. omega (arith, h.0) }
    plain_paid (Tree.text w s) r h = text_paid w s r h
    plain_paid (Tree.nesting n) r h = names_paid n r h
    plain_paid (Tree.group o v c) r h =
        let a = value_paid v (Yield.sign Tokens.round_close c r) h.1 in
        record { rest = a.rest.1; pays = λ q. omega (arith, a.pays q) }
    plain_paid (Tree.pair o p k v c) r h =
        let a = plain_paid p (Yield.sign Tokens.colon k (yield_value v (Yield.sign Tokens.round_close c r))) h.1 in
        let b = value_paid v (Yield.sign Tokens.round_close c r) a.rest.1 in
        record {
          rest = b.rest.1;
          pays = λ q. omega (
            arith,
            h.0,
            a.rest.0,
            b.rest.0,
            a.pays (sign Tokens.colon (spell bytes v (sign Tokens.round_close q))),
            b.pays
                (sign Tokens.round_close q),
          );
        }
    plain_paid (Tree.arrowed o v x k w c) r h =
        let a = value_paid v (Yield.sign (arrow_mark x) k (yield_value w (Yield.sign Tokens.round_close c r))) h.1 in
        let b = value_paid w (Yield.sign Tokens.round_close c r) a.rest.1 in
        let e = either_pays x k (mark (arrow_mark x)) (yield_value v (Yield.sign (arrow_mark x) k (yield_value w (Yield.sign Tokens.round_close c r))))
        (yield_value w (Yield.sign Tokens.round_close c r)) (Yield.sign Tokens.round_close c r)
        (λ z. spell bytes v z) (λ z. spell bytes w z) (arrow_one x k a.rest.0) a.pays b.pays in
        record { rest = b.rest.1; pays = λ q. omega (arith, h.0, b.rest.0, e (sign Tokens.round_close q)) }
    plain_paid (Tree.tuple o i c) r h =
        let a = attributes_paid i (Yield.sign Tokens.round_close c r) h.1 in
        record { rest = a.rest.1; pays = λ q. omega (arith, h.0, a.rest.0, a.pays (sign Tokens.round_close q)) }
    plain_paid (Tree.lot o i c) r h =
        let a = listing_paid i (Yield.sign Tokens.curly_close c r) h.1 in
        record { rest = a.rest.1; pays = λ q. omega (arith, h.0, a.rest.0, a.pays (sign Tokens.curly_close q)) }
    plain_paid (Tree.counted o x s k b i e c) r h =
        let a = listing_paid i (Yield.sign Tokens.curly_close e (Yield.sign Tokens.round_close c r)) h.1.1.1.1 in
        record {
          rest = a.rest.1.1;
          pays = λ q. omega (
            arith,
            h.0,
            h.1.0.0,
            h.1.1.0,
            h.1.1.1.0,
            a.rest.0,
            a.rest.1.0,
            a.pays
                (sign Tokens.curly_close (sign Tokens.round_close q)),
          );
        }
    plain_paid (Tree.interval o b c) r h =
        let a = bounds_paid b (Yield.sign Tokens.square_close c r) h.1 in
        record { rest = a.rest.1; pays = λ q. omega (arith, h.0, a.rest.0, a.pays (sign Tokens.square_close q)) }

    item_paid : {s : Style} (i : Item s) (r : List Tok) → Fairs (yield_item i r) → Paid (yield_item i r) r (λ q. spell_item bytes i q)
    item_paid (Tree.alone v) r h = value_paid v r h
    item_paid (Tree.open_named n k v) r h =
        let a = plain_name_paid n (Yield.sign Tokens.colon k (yield_value v r)) h in
        let b = value_paid v r a.rest.1 in
        record { rest = b.rest; pays = λ q. omega (arith, a.rest.0, a.pays (sign Tokens.colon (spell bytes v q)), b.pays q) }
    item_paid (Tree.named n k v) r h =
        let a = name_paid n (Yield.sign Tokens.colon k (yield_value v r)) h in
        let b = value_paid v r a.rest.1 in
        record { rest = b.rest; pays = λ q. omega (arith, a.rest.0, a.pays (sign Tokens.colon (spell bytes v q)), b.pays q) }
    item_paid (Tree.joined v j k w) r h =
        let a = value_paid v (Yield.sign (joiner_mark j) k (yield_value w r)) h in
        let b = value_paid w r a.rest.1 in
        record {
          rest = b.rest;
          pays = joiner_pays j k (mark (joiner_mark j)) (yield_value v (Yield.sign (joiner_mark j) k (yield_value w r))) (yield_value w r) r
              (λ z. spell bytes v z) (λ z. spell bytes w z) (joiner_one j k a.rest.0) a.pays b.pays;
        }
    item_paid (Tree.times v k c) r h =
        let a = value_paid v (Yield.sign Tokens.colon k (yield_count c r)) h in
        let b = count_paid c r a.rest.1 in
        record { rest = b.rest; pays = λ q. omega (arith, a.rest.0, a.pays (sign Tokens.colon (spell_count bytes c q)), b.pays q) }

    row_paid : {f s : Style} (o : Row f s) (r : List Tok) → Fairs (yield_row o r) → Rowed (yield_row o r) r (λ q. spell_row bytes o q)
    row_paid (Tree.row_first i c) r h =
        let a = item_paid i (Yield.sign Tokens.comma c r) h in
        record { rest = a.rest.1; with_comma = λ q. omega (arith, a.rest.0, a.pays (comma q)); without = λ q. omega (arith, a.pays q) }
    row_paid (Tree.row_led b i c) r h =
        let a = item_paid i (Yield.sign Tokens.comma c r) h.1 in
        record { rest = a.rest.1; with_comma = λ q. omega (arith, a.rest.0, a.pays (comma q)); without = λ q. omega (arith, a.pays q) }
    row_paid (Tree.row_next o i c) r h =
        let a = row_paid o (yield_item i (Yield.sign Tokens.comma c r)) h in
        let b = item_paid i (Yield.sign Tokens.comma c r) a.rest in
        record {
          rest = b.rest.1;
          with_comma = λ q. omega (arith, b.rest.0, a.with_comma (spell_item bytes i (comma q)), b.pays (comma q));
          without = λ q. omega (arith, a.with_comma (spell_item bytes i q), b.pays q);
        }

    listing_paid : {s : Style} (i : Listing s) (r : List Tok) → Fairs (yield_listing i r) → Paid (yield_listing i r) r (λ q. spell_listing bytes i q)
    listing_paid Tree.no_item r h = record { rest = h; pays = λ q. omega arith }
    listing_paid (Tree.one_comma c) r h = record { rest = h.1; pays = λ q. omega arith }
    listing_paid (Tree.two_commas c d) r h = record { rest = h.1.1; pays = λ q. omega arith }
    listing_paid (Tree.one_item i) r h = item_paid i r h
    listing_paid (Tree.led_item c i) r h = let a = item_paid i r h.1 in record { rest = a.rest; pays = λ q. omega (arith, a.pays q) }
    listing_paid (Tree.trailing o) r h = let a = row_paid o r h in record { rest = a.rest; pays = a.without }
    listing_paid (Tree.last_item o i) r h =
        let a = row_paid o (yield_item i r) h in
        let b = item_paid i r a.rest in
        record { rest = b.rest; pays = λ q. omega (arith, a.with_comma (spell_item bytes i q), b.pays q) }

    attributes_paid : (i : Attributes) (r : List Tok) → Fairs (yield_attributes i r) → Paid (yield_attributes i r) r (λ q. spell_attributes bytes i q)
    attributes_paid Tree.no_attribute r h = record { rest = h; pays = λ q. omega arith }
    attributes_paid (Tree.led_attribute c i) r h = let a = item_paid i r h.1 in record { rest = a.rest; pays = λ q. omega (arith, h.0, a.pays (comma q)) }
    attributes_paid (Tree.trailing_comma o) r h = let a = row_paid o r h in record { rest = a.rest; pays = after_pays o (yield_row o r) r a }
    attributes_paid (Tree.last_attribute o i) r h =
        let a = row_paid o (yield_item i r) h in
        let b = item_paid i r a.rest in
        record { rest = b.rest; pays = λ q. omega (arith, a.with_comma (spell_item bytes i q), b.pays q) }

    bounds_paid : (b : Bounds) (r : List Tok) → Fairs (yield_bounds b r) → Paid (yield_bounds b r) r (λ q. spell_bounds bytes b q)
    bounds_paid Tree.empty r h = record { rest = h; pays = λ q. omega arith }
    bounds_paid (Tree.single v) r h = value_paid v r h
    bounds_paid (Tree.between v x k w) r h =
        let a = value_paid v (Yield.sign (between_mark x) k (yield_value w r)) h in
        let b = value_paid w r a.rest.1 in
        record { rest = b.rest; pays = λ q. omega (arith, a.rest.0, a.pays (sign (between_mark x) (spell bytes w q)), b.pays q) }
    bounds_paid (Tree.from v x k) r h =
        let a = value_paid v (Yield.sign (Tokens.star (side_bound x) Open) k r) h in
        record { rest = a.rest.1; pays = λ q. omega (arith, a.rest.0, a.pays (sign (Tokens.star (side_bound x) Open) q)) }
    bounds_paid (Tree.up_to x k v) r h =
        let a = value_paid v r h.1 in
        record { rest = a.rest; pays = λ q. omega (arith, h.0, a.pays q) }
    bounds_paid (Tree.all k) r h = record { rest = h.1; pays = λ q. omega (arith, h.0) }

  pub spelled_long : (v : Value) → Fairs (yield_value v []) → long (spell bytes v []) ≤ total (yield_value v [])
  spelled_long v h = omega (arith, (value_paid v [] h).pays [])
