-- The plain form of a derivation whose tokens stand in the text, none of them bad: each of its tokens is one by itself, and so the plain form
-- is read as these. Assumes nothing.
use mathlib.Core.Path.{refl, sym, subst}
use mathlib.Core.Bool.{false}
use mathlib.Core.List.{List, [], ◌∷◌, ◌++◌}
use Prim.Native.Nat.{ℕ}
use native.Mathlib.Omega.{arith}
use lib.ListN.{length}
use Rattle.lexicon.specs.declared.Bound.TheVariants.{Open}
use Rattle.lexicon.specs.declared.Next.TheVariants as Next
use Rattle.lexicon.specs.declared.Kind.{Kind}
use Rattle.lexicon.specs.Token.{Comes, Is, Bad}
use Rattle.lexicon.proofs.Determined.{past_end}
use Rattle.grammar.specs.Tokens
use Rattle.grammar.specs.Tokens.{Span, Wording, Spelling, Tok, spelled, quoted, word, code_point_of}
use Rattle.grammar.specs.Tree
use Rattle.grammar.specs.Tree.{Names, one_name, more_names, PlainName, text_name, nesting_name, Name, plain_name, bare_name, Arrow, rightward, leftward, Joiner, Measure, Count, number, truth, Style, Value, Plain, Item, Row, Listing, Attributes, Bounds}
use Rattle.grammar.specs.Yield.{between_mark, side_bound, collection_head, yield_names, yield_plain_name, yield_name, yield_count, yield_value, yield_plain, yield_item, yield_row, yield_listing, yield_attributes, yield_bounds}
use Rattle.grammar.specs.Level.{Level}
use Rattle.reading.specs.declared.Limits.{Limits}
use Rattle.reading.specs.Derived.{Derived}
use Rattle.reading.specs.Tokens.{Follow, nothing, next, seen}
use Rattle.reading.proofs.Rows.{append}
use Rattle.reading.proofs.At.{class_kind_lem}
use Rattle.form.specs.Spell.{Spelt, either, joiner, spell_text, spell_wording, spell_names, spell_plain_name, spell_name, spell_count, after_one, spell, spell_plain, spell_item, spell_row, spell_listing, spell_attributes, spell_bounds, plain_form}
use Rattle.form.proofs.Spelts.{toks, end_is}
use Rattle.form.proofs.Neighbours.{Lones, none, some, separate_all}
use Rattle.form.proofs.Spelled.{spelled_neighbours}
use Rattle.form.proofs.Pieces.{Piece, round_lone, curly_lone, square_lone, names_lone, mark_lone, word_lone, code_lone, literal_lone, quoted_lone, head_quoted, head_self}

module _ (bytes : List ℕ) where
  -- the tokens stand in the text, none of them bad
  pub data Pieces : List Tok → Type 0 where
    nil : Pieces []
    piece : {t : Tok} {ts : List Tok} → Piece bytes t.class t.at → Pieces ts → Pieces (t ∷ ts)

  rest_of : {t : Tok} {ts : List Tok} → Pieces (t ∷ ts) → Pieces ts
  rest_of (piece p ps) = ps

  first_of : {t : Tok} {ts : List Tok} → Pieces (t ∷ ts) → Piece bytes t.class t.at
  first_of (piece p ps) = p

  -- what is put before others are tokens by themselves; and the tokens behind
  record Split (f : List Spelt → List Spelt) (r : List Tok) : Type 0 where
    adds : (q : List Spelt) → Lones q → Lones (f q)
    rest : Pieces r

  -- ---- Texts

  text_split : (x : Spelling) (s : Span) (q : List Spelt) → Piece bytes (Tokens.text (spelled x)) s → Lones q → Lones (spell_text bytes x s q)
  text_split quoted s q p l = some (quoted_lone bytes s p) l
  text_split word s q p l = some (word_lone bytes s p) l
  text_split code_point_of s q p l = some (code_lone bytes s p) l

  wording_split : (x : Wording) (s : Span) (q : List Spelt) → Piece bytes (Tokens.text x) s → Lones q → Lones (spell_wording bytes x s q)
  wording_split (spelled y) s q p l = text_split y s q p l
  wording_split (Tokens.head_word h) s q p l = some (head_quoted bytes h s p) l

  names_split : (n : Names) (r : List Tok) → Pieces (yield_names n r) → Split (λ q. spell_names bytes n q) r
  names_split (one_name s x t) r ps =
      record { adds = λ q l. some names_lone (wording_split x t q (first_of (rest_of ps)) l); rest = rest_of (rest_of ps) }
  names_split (more_names n s x t) r ps =
      let a = names_split n _ ps in
      record { adds = λ q l. a.adds _ (some names_lone (wording_split x t q (first_of (rest_of a.rest)) l)); rest = rest_of (rest_of a.rest) }

  plain_name_split : (n : PlainName) (r : List Tok) → Pieces (yield_plain_name n r) → Split (λ q. spell_plain_name bytes n q) r
  plain_name_split (text_name x s) r ps = record { adds = λ q l. text_split x s q (first_of ps) l; rest = rest_of ps }
  plain_name_split (nesting_name n) r ps = let a = names_split n r ps in record { adds = λ q l. a.adds q l; rest = a.rest }

  name_split : (n : Name) (r : List Tok) → Pieces (yield_name n r) → Split (λ q. spell_name bytes n q) r
  name_split (plain_name n) r ps = let a = plain_name_split n r ps in record { adds = λ q l. a.adds q l; rest = a.rest }
  name_split (bare_name h s) r ps = record { adds = λ q l. some (head_quoted bytes h s (first_of ps)) l; rest = rest_of ps }

  count_split : {u : Measure} (c : Count u) (r : List Tok) → Pieces (yield_count c r) → Split (λ q. spell_count bytes c q) r
  count_split (number s) r ps = record { adds = λ q l. some (literal_lone bytes s (Tokens.integer false) (first_of ps)) l; rest = rest_of ps }
  count_split (truth b s) r ps = record { adds = λ q l. some (literal_lone bytes s (Tokens.boolean b) (first_of ps)) l; rest = rest_of ps }

  -- ---- two joined

  either_adds : (a : Arrow) (f g : List Spelt → List Spelt) → ((q : List Spelt) → Lones q → Lones (f q)) → ((q : List Spelt) → Lones q → Lones (g q)) →
      (q : List Spelt) → Lones q → Lones (either a f g q)
  either_adds rightward f g x y q l = x _ (some (mark_lone Tokens.colon) (y q l))
  either_adds leftward f g x y q l = y _ (some (mark_lone Tokens.colon) (x q l))

  joiner_adds : (j : Joiner) (f g : List Spelt → List Spelt) → ((q : List Spelt) → Lones q → Lones (f q)) → ((q : List Spelt) → Lones q → Lones (g q)) →
      (q : List Spelt) → Lones q → Lones (joiner j f g q)
  joiner_adds Tree.colon f g x y q l = x _ (some (mark_lone Tokens.colon) (y q l))
  joiner_adds (Tree.arrow a) f g x y q l = either_adds a f g x y q l

  one_adds : {f s : Style} (o : Row f s) (q : List Spelt) → Lones q → Lones (after_one o q)
  one_adds (Tree.row_first i c) q l = some (mark_lone Tokens.comma) l
  one_adds (Tree.row_led b i c) q l = some (mark_lone Tokens.comma) l
  one_adds (Tree.row_next o i c) q l = l

  -- ---- values

  mutual
    value_split : (v : Value) (r : List Tok) → Pieces (yield_value v r) → Split (λ q. spell bytes v q) r
    value_split (Tree.plain p) r ps = let a = plain_split p r ps in record { adds = λ q l. a.adds q l; rest = a.rest }
    value_split (Tree.bare h s) r ps = record { adds = λ q l. some (head_quoted bytes h s (first_of ps)) l; rest = rest_of ps }

    plain_split : (p : Plain) (r : List Tok) → Pieces (yield_plain p r) → Split (λ q. spell_plain bytes p q) r
    plain_split (Tree.literal a s) r ps = record { adds = λ q l. some (literal_lone bytes s a (first_of ps)) l; rest = rest_of ps }
    plain_split (Tree.text x s) r ps = record { adds = λ q l. text_split x s q (first_of ps) l; rest = rest_of ps }
    plain_split (Tree.nesting n) r ps = let a = names_split n r ps in record { adds = λ q l. a.adds q l; rest = a.rest }
    plain_split (Tree.group o v c) r ps = let a = value_split v _ (rest_of ps) in record { adds = λ q l. a.adds q l; rest = rest_of a.rest }
    plain_split (Tree.pair o p k v c) r ps =
        let a = plain_split p _ (rest_of ps) in
        let b = value_split v _ (rest_of a.rest) in
        record {
          adds = λ q l. some round_lone (a.adds _ (some (mark_lone Tokens.colon) (b.adds _ (some (mark_lone Tokens.round_close) l))));
          rest = rest_of b.rest;
        }
    plain_split (Tree.arrowed o v x k w c) r ps =
        let a = value_split v _ (rest_of ps) in
        let b = value_split w _ (rest_of a.rest) in
        record {
          adds = λ q l. some round_lone
              (either_adds x (λ z. spell bytes v z) (λ z. spell bytes w z) (λ z i. a.adds z i) (λ z i. b.adds z i) _ (some (mark_lone Tokens.round_close) l));
          rest = rest_of b.rest;
        }
    plain_split (Tree.tuple o i c) r ps =
        let a = attributes_split i _ (rest_of ps) in
        record { adds = λ q l. some round_lone (a.adds _ (some (mark_lone Tokens.round_close) l)); rest = rest_of a.rest }
    plain_split (Tree.lot o i c) r ps =
        let a = listing_split i _ (rest_of ps) in
        record { adds = λ q l. some curly_lone (a.adds _ (some (mark_lone Tokens.curly_close) l)); rest = rest_of a.rest }
    plain_split (Tree.counted o h s k b i e c) r ps =
        let a = listing_split i _ (rest_of (rest_of (rest_of (rest_of ps)))) in
        record {
          adds = λ q l. some round_lone
              (some (head_self bytes (collection_head h) s (first_of (rest_of ps)))
              (some (mark_lone Tokens.colon) (some curly_lone (a.adds _ (some (mark_lone Tokens.curly_close) (some (mark_lone Tokens.round_close) l))))));
          rest = rest_of (rest_of a.rest);
        }
    plain_split (Tree.interval o b c) r ps =
        let a = bounds_split b _ (rest_of ps) in
        record { adds = λ q l. some square_lone (a.adds _ (some (mark_lone Tokens.square_close) l)); rest = rest_of a.rest }

    item_split : {s : Style} (i : Item s) (r : List Tok) → Pieces (yield_item i r) → Split (λ q. spell_item bytes i q) r
    item_split (Tree.alone v) r ps = let a = value_split v r ps in record { adds = λ q l. a.adds q l; rest = a.rest }
    item_split (Tree.open_named n k v) r ps =
        let a = plain_name_split n _ ps in
        let b = value_split v _ (rest_of a.rest) in
        record { adds = λ q l. a.adds _ (some (mark_lone Tokens.colon) (b.adds q l)); rest = b.rest }
    item_split (Tree.named n k v) r ps =
        let a = name_split n _ ps in
        let b = value_split v _ (rest_of a.rest) in
        record { adds = λ q l. a.adds _ (some (mark_lone Tokens.colon) (b.adds q l)); rest = b.rest }
    item_split (Tree.joined v j k w) r ps =
        let a = value_split v _ ps in
        let b = value_split w _ (rest_of a.rest) in
        record { adds = λ q l. joiner_adds j (λ z. spell bytes v z) (λ z. spell bytes w z) (λ z i. a.adds z i) (λ z i. b.adds z i) q l; rest = b.rest }
    item_split (Tree.times v k c) r ps =
        let a = value_split v _ ps in
        let b = count_split c _ (rest_of a.rest) in
        record { adds = λ q l. a.adds _ (some (mark_lone Tokens.colon) (b.adds q l)); rest = b.rest }

    row_split : {f s : Style} (o : Row f s) (r : List Tok) → Pieces (yield_row o r) → Split (λ q. spell_row bytes o q) r
    row_split (Tree.row_first i c) r ps = let a = item_split i _ ps in record { adds = λ q l. a.adds q l; rest = rest_of a.rest }
    row_split (Tree.row_led b i c) r ps = let a = item_split i _ (rest_of ps) in record { adds = λ q l. a.adds q l; rest = rest_of a.rest }
    row_split (Tree.row_next o i c) r ps =
        let a = row_split o _ ps in
        let b = item_split i _ a.rest in
        record { adds = λ q l. a.adds _ (some (mark_lone Tokens.comma) (b.adds q l)); rest = rest_of b.rest }

    listing_split : {s : Style} (i : Listing s) (r : List Tok) → Pieces (yield_listing i r) → Split (λ q. spell_listing bytes i q) r
    listing_split Tree.no_item r ps = record { adds = λ q l. l; rest = ps }
    listing_split (Tree.one_comma c) r ps = record { adds = λ q l. l; rest = rest_of ps }
    listing_split (Tree.two_commas c d) r ps = record { adds = λ q l. l; rest = rest_of (rest_of ps) }
    listing_split (Tree.one_item i) r ps = let a = item_split i _ ps in record { adds = λ q l. a.adds q l; rest = a.rest }
    listing_split (Tree.led_item c i) r ps = let a = item_split i _ (rest_of ps) in record { adds = λ q l. a.adds q l; rest = a.rest }
    listing_split (Tree.trailing o) r ps = let a = row_split o _ ps in record { adds = λ q l. a.adds q l; rest = a.rest }
    listing_split (Tree.last_item o i) r ps =
        let a = row_split o _ ps in
        let b = item_split i _ a.rest in
        record { adds = λ q l. a.adds _ (some (mark_lone Tokens.comma) (b.adds q l)); rest = b.rest }

    attributes_split : (i : Attributes) (r : List Tok) → Pieces (yield_attributes i r) → Split (λ q. spell_attributes bytes i q) r
    attributes_split Tree.no_attribute r ps = record { adds = λ q l. l; rest = ps }
    attributes_split (Tree.led_attribute c i) r ps =
        let a = item_split i _ (rest_of ps) in record { adds = λ q l. a.adds _ (some (mark_lone Tokens.comma) l); rest = a.rest }
    attributes_split (Tree.trailing_comma o) r ps = let a = row_split o _ ps in record { adds = λ q l. a.adds _ (one_adds o q l); rest = a.rest }
    attributes_split (Tree.last_attribute o i) r ps =
        let a = row_split o _ ps in
        let b = item_split i _ a.rest in
        record { adds = λ q l. a.adds _ (some (mark_lone Tokens.comma) (b.adds q l)); rest = b.rest }

    bounds_split : (b : Bounds) (r : List Tok) → Pieces (yield_bounds b r) → Split (λ q. spell_bounds bytes b q) r
    bounds_split Tree.empty r ps = record { adds = λ q l. l; rest = ps }
    bounds_split (Tree.single v) r ps = let a = value_split v _ ps in record { adds = λ q l. a.adds q l; rest = a.rest }
    bounds_split (Tree.between v x k w) r ps =
        let a = value_split v _ ps in
        let b = value_split w _ (rest_of a.rest) in
        record { adds = λ q l. a.adds _ (some (mark_lone (between_mark x)) (b.adds q l)); rest = b.rest }
    bounds_split (Tree.from v x k) r ps = let a = value_split v _ ps in
        record { adds = λ q l. a.adds _ (some (mark_lone (Tokens.star (side_bound x) Open)) l); rest = rest_of a.rest }
    bounds_split (Tree.up_to x k v) r ps = let a = value_split v _ (rest_of ps) in
        record { adds = λ q l. some (mark_lone (Tokens.star Open (side_bound x))) (a.adds q l); rest = a.rest }
    bounds_split (Tree.all k) r ps = record { adds = λ q l. some (mark_lone (Tokens.star Open Open)) l; rest = rest_of ps }

  -- each token of the plain form is one by itself
  pub spelled_lones : (v : Value) → Pieces (yield_value v []) → Lones (spell bytes v [])
  spelled_lones v ps = (value_split v [] ps).adds [] none

  -- so the plain form is read as these, and then it ends
  pub spelled_reads : (v : Value) → Pieces (yield_value v []) → Follow (plain_form bytes v) 0 (toks 0 (spell bytes v [])) (length (plain_form bytes v))
  spelled_reads v ps =
      subst (Follow (plain_form bytes v) 0 (toks 0 (spell bytes v []))) (omega (arith, end_is (spell bytes v []) 0))
      (separate_all (spell bytes v []) (spelled_lones v ps) (spelled_neighbours bytes v))

  pub spelled_ends : (v : Value) → Comes (plain_form bytes v) (length (plain_form bytes v)) (Next.End (length (plain_form bytes v)))
  spelled_ends v = past_end (plain_form bytes v) (length (plain_form bytes v)) (omega arith)

-- ---- the tokens of a text that has a derivation

module _ (limits : Limits) (l : Level) (bytes : List ℕ) (v : Value) (d : Derived limits l bytes v) where
  row_pieces : (before : List Tok) {p q : ℕ} {ts : List Tok} → Follow bytes d.start before p → Follow bytes p ts q → Pieces bytes ts
  row_pieces before f nothing = nil
  row_pieces before f (next {t = t} c g) =
      let k = class_kind_lem t.kind refl in
      piece
      (record {
        is = subst (λ (x : Kind). Is bytes x t.first t.end) k c.2;
        sound = λ b. d.sound f c (subst (λ (x : Kind). Bad bytes x t.first t.end) (sym k) b);
      })
      (row_pieces (before ++ (seen t ∷ [])) (append bytes f (next c nothing)) g)

  pub derived_pieces : Pieces bytes (yield_value v [])
  derived_pieces = row_pieces [] nothing d.row
