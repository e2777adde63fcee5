-- The tokens that a tree yields, each spelled by its sample, have allowed neighbours only. Assumes nothing.
use mathlib.Core.Path.{◌≡◌, refl}
use mathlib.Core.Bool.{true}
use mathlib.Core.List.{List, [], ◌∷◌}
use Rattle.rules.specs.Class.{codes}
use Rattle.lexicon.specs.Token.{head_word}
use Rattle.grammar.specs.Tokens
use Rattle.grammar.specs.Tokens.{Span, Tok, tok, names, round, curly, square, mark, spelled}
use Rattle.grammar.specs.Tree
use Rattle.grammar.specs.Tree.{Names, one_name, more_names, PlainName, text_name, nesting_name, Name, plain_name, bare_name, Arrow, rightward, leftward, Joiner, Measure, Count, number, truth, Style, Value, Plain, Item, Row, Listing, Attributes, Bounds}
use Rattle.grammar.specs.Yield.{arrow_mark, joiner_mark, collection_head, yield_names, yield_plain_name, yield_name, yield_count, yield_value, yield_plain, yield_item, yield_row, yield_listing, yield_attributes, yield_bounds}
use Rattle.form.specs.Spell.{Spelt, put, sign}
use Rattle.form.proofs.Neighbours.{neighbours}
use Rattle.form.proofs.Spelled.{Rest, nil, cons, Good, good, rest_fine, good_fine, literal_next, text_next, free_next, bracket, colon_rest, comma_rest, close_round_lem, close_curly_lem, close_square_lem, between_rest, from_rest, upto_fine}
use Rattle.form.proofs.Samples.{samples}

arrow_rest : (a : Arrow) {s : List Spelt} → Good s → Rest (sign (arrow_mark a) s)
arrow_rest rightward {s} g = cons refl (free_next (mark Tokens.right_arrow) [] (λ d. refl) s (good_fine g))
arrow_rest leftward {s} g = cons refl (free_next (mark Tokens.left_arrow) [] (λ d. refl) s (good_fine g))

joiner_rest : (j : Joiner) {s : List Spelt} → Good s → Rest (sign (joiner_mark j) s)
joiner_rest Tree.colon g = colon_rest g
joiner_rest (Tree.arrow a) g = arrow_rest a g

name_rest : (ws : List Spelt) → Good (put names (codes "::") ws) → Rest (put names (codes "::") ws)
name_rest ws (good e n) = cons refl n

names_good : (n : Names) (r : List Tok) → Rest (samples r) → Good (samples (yield_names n r))
names_good (one_name s w t) r h = good refl (good_fine (text_next w [] h))
names_good (more_names n s w t) r h = names_good n _ (name_rest _ (good refl (good_fine (text_next w [] h))))

plain_name_good : (n : PlainName) (r : List Tok) → Rest (samples r) → Good (samples (yield_plain_name n r))
plain_name_good (text_name w s) r h = text_next (spelled w) _ h
plain_name_good (nesting_name n) r h = names_good n r h

any_name_good : (n : Name) (r : List Tok) → Rest (samples r) → Good (samples (yield_name n r))
any_name_good (plain_name n) r h = plain_name_good n r h
any_name_good (bare_name x s) r h = text_next (Tokens.head_word x) _ h

count_good : {u : Measure} (c : Count u) (r : List Tok) → Rest (samples r) → Good (samples (yield_count c r))
count_good (number s) r h = literal_next _ _ h
count_good (truth b s) r h = literal_next _ _ h

-- a comma may stand before anything
comma_fine : (c : Span) (ts : List Tok) → neighbours (samples ts) ≡ true → neighbours (samples (tok (mark Tokens.comma) c ∷ ts)) ≡ true
comma_fine c ts n = rest_fine (comma_rest (samples ts) n)

mutual
  value_good : (v : Value) (r : List Tok) → Rest (samples r) → Good (samples (yield_value v r))
  value_good (Tree.plain p) r h = plain_good p r h
  value_good (Tree.bare x s) r h = text_next (Tokens.head_word x) _ h

  plain_good : (p : Plain) (r : List Tok) → Rest (samples r) → Good (samples (yield_plain p r))
  plain_good (Tree.literal a s) r h = literal_next a _ h
  plain_good (Tree.text w s) r h = text_next (spelled w) _ h
  plain_good (Tree.nesting n) r h = names_good n r h
  plain_good (Tree.group o v c) r h = bracket round _ refl (λ d. refl) _ (good_fine (value_good v _ (close_round_lem _ (rest_fine h))))
  plain_good (Tree.pair o p k v c) r h =
      bracket round _ refl (λ d. refl) _ (good_fine (plain_good p _ (colon_rest (value_good v _ (close_round_lem _ (rest_fine h))))))
  plain_good (Tree.arrowed o v a k w c) r h =
      bracket round _ refl (λ d. refl) _ (good_fine (value_good v _ (arrow_rest a (value_good w _ (close_round_lem _ (rest_fine h))))))
  plain_good (Tree.tuple o l c) r h = bracket round _ refl (λ d. refl) _ (attributes_fine l _ (close_round_lem _ (rest_fine h)))
  plain_good (Tree.lot o l c) r h = bracket curly _ refl (λ d. refl) _ (listing_fine l _ (close_curly_lem _ (rest_fine h)))
  plain_good (Tree.counted o x s k b l e c) r h =
      let q = tok (mark Tokens.curly_close) e ∷ tok (mark Tokens.round_close) c ∷ r in
      let m = listing_fine l q (close_curly_lem (sign Tokens.round_close (samples r)) (rest_fine (close_round_lem (samples r) (rest_fine h)))) in
      let n = bracket curly (codes "{") refl (λ d. refl) (samples (yield_listing l q)) m in
      bracket round _ refl (λ d. refl) _ (good_fine (text_next (Tokens.head_word (collection_head x)) (codes (head_word (collection_head x))) (colon_rest n)))
  plain_good (Tree.interval o b c) r h = bracket square _ refl (λ d. refl) _ (bounds_fine b _ r (rest_fine h))

  item_good : {s : Style} (i : Item s) (r : List Tok) → Rest (samples r) → Good (samples (yield_item i r))
  item_good (Tree.alone v) r h = value_good v r h
  item_good (Tree.open_named n k v) r h = plain_name_good n _ (colon_rest (value_good v r h))
  item_good (Tree.named n k v) r h = any_name_good n _ (colon_rest (value_good v r h))
  item_good (Tree.joined v j k w) r h = value_good v _ (joiner_rest j (value_good w r h))
  item_good (Tree.times v k c) r h = value_good v _ (colon_rest (count_good c r h))

  row_fine : {f s : Style} (o : Row f s) (r : List Tok) → neighbours (samples r) ≡ true → neighbours (samples (yield_row o r)) ≡ true
  row_fine (Tree.row_first i c) r n = good_fine (item_good i (tok (mark Tokens.comma) c ∷ r) (comma_rest (samples r) n))
  row_fine (Tree.row_led b i c) r n =
      comma_fine b (yield_item i (tok (mark Tokens.comma) c ∷ r)) (good_fine (item_good i (tok (mark Tokens.comma) c ∷ r) (comma_rest (samples r) n)))
  row_fine (Tree.row_next o i c) r n =
      row_fine o (yield_item i (tok (mark Tokens.comma) c ∷ r)) (good_fine (item_good i (tok (mark Tokens.comma) c ∷ r) (comma_rest (samples r) n)))

  listing_fine : {s : Style} (l : Listing s) (r : List Tok) → Rest (samples r) → neighbours (samples (yield_listing l r)) ≡ true
  listing_fine Tree.no_item r h = rest_fine h
  listing_fine (Tree.one_comma c) r h = comma_fine c r (rest_fine h)
  listing_fine (Tree.two_commas c d) r h = comma_fine c (tok (mark Tokens.comma) d ∷ r) (comma_fine d r (rest_fine h))
  listing_fine (Tree.one_item i) r h = good_fine (item_good i r h)
  listing_fine (Tree.led_item c i) r h = comma_fine c (yield_item i r) (good_fine (item_good i r h))
  listing_fine (Tree.trailing o) r h = row_fine o r (rest_fine h)
  listing_fine (Tree.last_item o i) r h = row_fine o (yield_item i r) (good_fine (item_good i r h))

  attributes_fine : (l : Attributes) (r : List Tok) → Rest (samples r) → neighbours (samples (yield_attributes l r)) ≡ true
  attributes_fine Tree.no_attribute r h = rest_fine h
  attributes_fine (Tree.led_attribute c i) r h = comma_fine c (yield_item i r) (good_fine (item_good i r h))
  attributes_fine (Tree.trailing_comma o) r h = row_fine o r (rest_fine h)
  attributes_fine (Tree.last_attribute o i) r h = row_fine o (yield_item i r) (good_fine (item_good i r h))

  bounds_fine : (b : Bounds) (c : Span) (r : List Tok) → neighbours (samples r) ≡ true →
      neighbours (samples (yield_bounds b (tok (mark Tokens.square_close) c ∷ r))) ≡ true
  bounds_fine Tree.empty c r n = rest_fine (close_square_lem (samples r) n)
  bounds_fine (Tree.single v) c r n = good_fine (value_good v _ (close_square_lem (samples r) n))
  bounds_fine (Tree.between v b k w) c r n = good_fine (value_good v _ (between_rest b (value_good w _ (close_square_lem (samples r) n))))
  bounds_fine (Tree.from v a k) c r n = good_fine (value_good v _ (from_rest a (samples r) n))
  bounds_fine (Tree.up_to a k v) c r n = upto_fine a (value_good v _ (close_square_lem (samples r) n))
  bounds_fine (Tree.all k) c r n = rest_fine (close_square_lem (samples r) n)

pub yielded_neighbours : (v : Value) → neighbours (samples (yield_value v [])) ≡ true
yielded_neighbours v = good_fine (value_good v [] nil)
