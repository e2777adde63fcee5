-- The plain form of a derivation: 02, request 5, 'no byte-order mark, first line, comments, dividing space or groups,
-- no `_` between digits, pairs always as this, `:`, that; commas only between members, and one after a Tuple's single
-- attribute. A bare word that is one of the thirteen heads, but is no head there, is written in quotes, in a name or a
-- Nesting too.' It is a row of tokens, each with the bytes that are written: the row that Yield.antt gives, in front of
-- what follows, less what is left out. Assumes nothing.
use Rattle.std.specs.Prelude.{false, List, [], ◌∷◌, ◌++◌, ℕ}
use Rattle.rules.specs.Class.{codes}
use Rattle.rules.specs.Plain.{between}
use Rattle.lexicon.specs.declared.Bound.TheVariants.{Open}
use Rattle.lexicon.specs.Symbols.{side}
use Rattle.lexicon.specs.Token.{head_word}
use Rattle.grammar.specs.Tokens
use Rattle.grammar.specs.Tokens.{Span, Class, Mark, Wording, Spelling, atom, text, names, round, curly, square, mark}
use Rattle.grammar.specs.Tokens.{spelled, quoted, word, code_point_of, integer, boolean}
use Rattle.grammar.specs.Tree
use Rattle.grammar.specs.Tree.{Names, one_name, more_names}
use Rattle.grammar.specs.Tree.{PlainName, text_name, nesting_name, Name, plain_name, bare_name}
use Rattle.grammar.specs.Tree.{Arrow, rightward, leftward, Joiner, Measure, Count, number, truth, Style, Value, Plain}
use Rattle.grammar.specs.Tree.{Item, Row, Listing, Attributes, Bounds}
use Rattle.grammar.specs.Yield.{between_mark, side_bound, collection_head}
use Rattle.form.specs.Bare.{bare}

-- a token as it is written: its class and its bytes
pub record Spelt : Type 0 where
  pub class : Class
  pub bytes : List ℕ

abbrev pub put : Class → List ℕ → List Spelt → List Spelt
put c bs r = record { class = c; bytes = bs } ∷ r

-- one behind the other
abbrev pub bytes_of : List Spelt → List ℕ
bytes_of [] = []
bytes_of (w ∷ ws) = w.bytes ++ bytes_of ws

-- in quotes
abbrev pub quoted_bytes : List ℕ → List ℕ
quoted_bytes bs = codes "\"" ++ bs ++ codes "\""

-- ---- signs

abbrev pub mark_bytes : Mark → List ℕ
mark_bytes Tokens.round_close = codes ")"
mark_bytes Tokens.curly_close = codes "}"
mark_bytes Tokens.square_close = codes "]"
mark_bytes Tokens.comma = codes ","
mark_bytes Tokens.colon = codes ":"
mark_bytes Tokens.right_arrow = codes "->"
mark_bytes Tokens.left_arrow = codes "<-"
mark_bytes Tokens.dots = codes ".."
mark_bytes (Tokens.star a b) = codes (side a) ++ codes "*" ++ codes (side b)

abbrev pub sign : Mark → List Spelt → List Spelt
sign m r = put (mark m) (mark_bytes m) r

abbrev pub comma : List Spelt → List Spelt
comma r = sign Tokens.comma r

-- 'pairs always as this, `:`, that'
abbrev pub joined : (List Spelt → List Spelt) → (List Spelt → List Spelt) → List Spelt → List Spelt
joined this that r = this (sign Tokens.colon (that r))

-- in `b<-a` the this stands behind
abbrev pub either : Arrow → (List Spelt → List Spelt) → (List Spelt → List Spelt) → List Spelt → List Spelt
either rightward a b r = joined a b r
either leftward a b r = joined b a r

abbrev pub joiner : Joiner → (List Spelt → List Spelt) → (List Spelt → List Spelt) → List Spelt → List Spelt
joiner Tree.colon a b r = joined a b r
joiner (Tree.arrow d) a b r = either d a b r

-- 'one after a Tuple's single attribute': behind a row of one
abbrev pub after_one : {f s : Style} → Row f s → List Spelt → List Spelt
after_one (Tree.row_first i c) r = comma r
after_one (Tree.row_led b i c) r = comma r
after_one (Tree.row_next o i c) r = r

module _ (bytes : List ℕ) where
  -- as it stands in the text
  abbrev pub part : Span → List ℕ
  part s = between bytes s.first s.end

  -- ---- Texts

  -- the `_` of a word is its own, and a code point has none
  abbrev pub spell_text : Spelling → Span → List Spelt → List Spelt
  spell_text quoted s r = put (text (spelled quoted)) (bare (part s)) r
  spell_text word s r = put (text (spelled word)) (part s) r
  spell_text code_point_of s r = put (text (spelled code_point_of)) (part s) r

  -- a bare head word that is no head there
  abbrev pub in_quotes : Span → List Spelt → List Spelt
  in_quotes s r = put (text (spelled quoted)) (quoted_bytes (part s)) r

  abbrev pub spell_wording : Wording → Span → List Spelt → List Spelt
  spell_wording (spelled w) s r = spell_text w s r
  spell_wording (Tokens.head_word h) s r = in_quotes s r

  abbrev pub spell_names : Names → List Spelt → List Spelt
  spell_names (one_name s w t) r = put names (codes "::") (spell_wording w t r)
  spell_names (more_names n s w t) r = spell_names n (put names (codes "::") (spell_wording w t r))

  abbrev pub spell_plain_name : PlainName → List Spelt → List Spelt
  spell_plain_name (text_name w s) r = spell_text w s r
  spell_plain_name (nesting_name n) r = spell_names n r

  abbrev pub spell_name : Name → List Spelt → List Spelt
  spell_name (plain_name n) r = spell_plain_name n r
  spell_name (bare_name h s) r = in_quotes s r

  abbrev pub spell_count : {u : Measure} → Count u → List Spelt → List Spelt
  spell_count (number s) r = put (atom (integer false)) (bare (part s)) r
  spell_count (truth b s) r = put (atom (boolean b)) (bare (part s)) r

  -- ---- values

  abbrev mutual
    pub spell : Value → List Spelt → List Spelt
    spell (Tree.plain p) r = spell_plain p r
    spell (Tree.bare h s) r = in_quotes s r

    pub spell_plain : Plain → List Spelt → List Spelt
    spell_plain (Tree.literal a s) r = put (atom a) (bare (part s)) r
    spell_plain (Tree.text w s) r = spell_text w s r
    spell_plain (Tree.nesting n) r = spell_names n r
    spell_plain (Tree.group o v c) r = spell v r
    spell_plain (Tree.pair o p k v c) r =
        put round (codes "(") (joined (λ x. spell_plain p x) (λ x. spell v x) (sign Tokens.round_close r))
    spell_plain (Tree.arrowed o v a k w c) r =
        put round (codes "(") (either a (λ x. spell v x) (λ x. spell w x) (sign Tokens.round_close r))
    spell_plain (Tree.tuple o l c) r = put round (codes "(") (spell_attributes l (sign Tokens.round_close r))
    spell_plain (Tree.lot o l c) r = put curly (codes "{") (spell_listing l (sign Tokens.curly_close r))
    spell_plain (Tree.counted o h s k b l e c) r =
        put round (codes "(")
        (put (text (Tokens.head_word (collection_head h))) (codes (head_word (collection_head h)))
        (sign Tokens.colon
        (put curly (codes "{") (spell_listing l (sign Tokens.curly_close (sign Tokens.round_close r))))))
    spell_plain (Tree.interval o b c) r = put square (codes "[") (spell_bounds b (sign Tokens.square_close r))

    pub spell_item : {s : Style} → Item s → List Spelt → List Spelt
    spell_item (Tree.alone v) r = spell v r
    spell_item (Tree.open_named n k v) r = spell_plain_name n (sign Tokens.colon (spell v r))
    spell_item (Tree.named n k v) r = spell_name n (sign Tokens.colon (spell v r))
    spell_item (Tree.joined v j k w) r = joiner j (λ x. spell v x) (λ x. spell w x) r
    spell_item (Tree.times v k c) r = spell v (sign Tokens.colon (spell_count c r))

    -- 'commas only between members'
    pub spell_row : {f s : Style} → Row f s → List Spelt → List Spelt
    spell_row (Tree.row_first i c) r = spell_item i r
    spell_row (Tree.row_led b i c) r = spell_item i r
    spell_row (Tree.row_next o i c) r = spell_row o (comma (spell_item i r))

    pub spell_listing : {s : Style} → Listing s → List Spelt → List Spelt
    spell_listing Tree.no_item r = r
    spell_listing (Tree.one_comma c) r = r
    spell_listing (Tree.two_commas c d) r = r
    spell_listing (Tree.one_item i) r = spell_item i r
    spell_listing (Tree.led_item c i) r = spell_item i r
    spell_listing (Tree.trailing o) r = spell_row o r
    spell_listing (Tree.last_item o i) r = spell_row o (comma (spell_item i r))

    pub spell_attributes : Attributes → List Spelt → List Spelt
    spell_attributes Tree.no_attribute r = r
    spell_attributes (Tree.led_attribute c i) r = spell_item i (comma r)
    spell_attributes (Tree.trailing_comma o) r = spell_row o (after_one o r)
    spell_attributes (Tree.last_attribute o i) r = spell_row o (comma (spell_item i r))

    pub spell_bounds : Bounds → List Spelt → List Spelt
    spell_bounds Tree.empty r = r
    spell_bounds (Tree.single v) r = spell v r
    spell_bounds (Tree.between v b k w) r = spell v (sign (between_mark b) (spell w r))
    spell_bounds (Tree.from v a k) r = spell v (sign (Tokens.star (side_bound a) Open) r)
    spell_bounds (Tree.up_to a k v) r = sign (Tokens.star Open (side_bound a)) (spell v r)
    spell_bounds (Tree.all k) r = sign (Tokens.star Open Open) r

  -- the plain form
  abbrev pub plain_form : Value → List ℕ
  plain_form v = bytes_of (spell v [])
