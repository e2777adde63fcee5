-- The plain form's tokens have the classes of the normal tree's; so the plain form has a tree, the normal one but for spans. Assumes nothing.
use mathlib.Core.Path.{◌≡◌, refl, sym, ap, ◌∙◌}
use mathlib.Core.List.{List, [], ◌∷◌}
use Prim.Native.Nat.{ℕ, ◌+◌}
use lib.ListN.{length}
use Rattle.rules.specs.Class.{codes}
use Rattle.grammar.specs.Tokens
use Rattle.grammar.specs.Tokens.{Span, Class, Tok, tok, Wording, Spelling, spelled, quoted, word, code_point_of, names, round, curly, square}
use Rattle.grammar.specs.Tree
use Rattle.grammar.specs.Tree.{Names, one_name, more_names, PlainName, text_name, nesting_name, Name, plain_name, bare_name, Arrow, rightward, leftward, Joiner, Measure, Count, number, truth, Style, Value, Plain, Item, Row, Listing, Attributes, Bounds}
use Rattle.grammar.specs.Yield.{yield_names, yield_plain_name, yield_count, yield_value, yield_plain, yield_item, yield_row, yield_listing, yield_attributes, yield_bounds}
use Rattle.grammar.specs.Yield as Yield
use Rattle.form.specs.Spell.{Spelt, put, sign, comma, either, joiner, spell_text, spell_wording, spell_names, spell_plain_name, spell_name, spell_count, after_one, spell, spell_plain, spell_item, spell_row, spell_listing, spell_attributes, spell_bounds}
use Rattle.form.specs.Spellable.{classes}
use Rattle.form.proofs.Reshape.{blank, reshape_all}
use Rattle.form.proofs.Spelts.{toks}
use Rattle.form.proofs.Normal.{norm_wording, norm_names, norm_plain_name, norm_name, pair_up, join_up, opened, closed, closed_tuple, norm, norm_plain, norm_item, norm_row, norm_listing, norm_attributes, norm_bounds}

abbrev pub spelt_classes : List Spelt → List Class
spelt_classes [] = []
spelt_classes (w ∷ ws) = w.class ∷ spelt_classes ws

pub tok_classes : (p : ℕ) (ws : List Spelt) → classes (toks p ws) ≡ spelt_classes ws
tok_classes p [] = refl
tok_classes p (w ∷ ws) = ap (λ (l : List Class). w.class ∷ l) (tok_classes (p + length w.bytes) ws)

-- one class more
also : (c : Class) {a b : List Class} → a ≡ b → c ∷ a ≡ c ∷ b
also c e = ap (λ (l : List Class). c ∷ l) e

-- a row without the comma behind its last item
abbrev yield_last : {f s : Style} → Row f s → List Tok → List Tok
yield_last (Tree.row_first i c) r = yield_item i r
yield_last (Tree.row_led b i c) r = Yield.sign Tokens.comma b (yield_item i r)
yield_last (Tree.row_next o i c) r = yield_row o (yield_item i r)

module _ (bytes : List ℕ) where
  abbrev Same : (List Tok → List Tok) → (List Spelt → List Spelt) → Type 0
  Same f g = (r : List Tok) (q : List Spelt) → classes r ≡ spelt_classes q → classes (f r) ≡ spelt_classes (g q)

  -- ---- names

  text_same : (x : Spelling) (s : Span) → Same (λ r. tok (Tokens.text (spelled x)) s ∷ r) (λ q. spell_text bytes x s q)
  text_same quoted s r q e = also _ e
  text_same word s r q e = also _ e
  text_same code_point_of s r q e = also _ e

  wording_same : (x : Wording) (s : Span) → Same (λ r. tok (Tokens.text (norm_wording x)) s ∷ r) (λ q. spell_wording bytes x s q)
  wording_same (spelled y) s r q e = text_same y s r q e
  wording_same (Tokens.head_word h) s r q e = also _ e

  names_same : (n : Names) → Same (λ r. yield_names (norm_names n) r) (λ q. spell_names bytes n q)
  names_same (one_name s x t) r q e = also names (wording_same x t r q e)
  names_same (more_names n s x t) r q e = names_same n _ _ (also names (wording_same x t r q e))

  plain_name_same : (n : PlainName) → Same (λ r. yield_plain_name (norm_plain_name n) r) (λ q. spell_plain_name bytes n q)
  plain_name_same (text_name x s) r q e = text_same x s r q e
  plain_name_same (nesting_name n) r q e = names_same n r q e

  name_same : (n : Name) → Same (λ r. yield_plain_name (norm_name n) r) (λ q. spell_name bytes n q)
  name_same (plain_name n) r q e = plain_name_same n r q e
  name_same (bare_name h s) r q e = also _ e

  count_same : {u : Measure} (c : Count u) → Same (λ r. yield_count c r) (λ q. spell_count bytes c q)
  count_same (number s) r q e = also _ e
  count_same (truth b s) r q e = also _ e

  -- ---- two joined

  pair_same : (a : Arrow) (o k c : Span) (x y : Plain) (f g : List Spelt → List Spelt) → Same (λ r. yield_plain x r) f → Same (λ r. yield_plain y r) g →
      Same (λ r. yield_plain (pair_up a o x k y c) r) (λ q. put round (codes "(") (either a f g (sign Tokens.round_close q)))
  pair_same rightward o k c x y f g h i r q e = also round (h _ _ (also _ (i _ _ (also _ e))))
  pair_same leftward o k c x y f g h i r q e = also round (i _ _ (also _ (h _ _ (also _ e))))

  join_same : (j : Joiner) (k : Span) (x y : Plain) (f g : List Spelt → List Spelt) → Same (λ r. yield_plain x r) f → Same (λ r. yield_plain y r) g →
      Same (λ r. yield_item (join_up j x k y) r) (λ q. joiner j f g q)
  join_same Tree.colon k x y f g h i r q e = h _ _ (also _ (i _ _ e))
  join_same (Tree.arrow rightward) k x y f g h i r q e = h _ _ (also _ (i _ _ e))
  join_same (Tree.arrow leftward) k x y f g h i r q e = i _ _ (also _ (h _ _ e))

  opened_same : (i : Item Tree.attribute) (r : List Tok) → classes (yield_item (opened (norm_item i)) r) ≡ classes (yield_item (norm_item i) r)
  opened_same (Tree.alone v) r = refl
  opened_same (Tree.named n k v) r = refl

  closed_last : {s : Style} (o : Row s s) (r : List Tok) → yield_listing (closed (norm_row o s (λ i. i) (λ i. i))) r ≡ yield_last (norm_row o s (λ i. i) (λ i. i)) r
  closed_last (Tree.row_first i c) r = refl
  closed_last (Tree.row_led b i c) r = refl
  closed_last (Tree.row_next o i c) r = refl

  tuple_last : (o : Row Tree.opening Tree.attribute) (r : List Tok) (q : List Spelt) →
      (classes (yield_row (norm_row o Tree.opening (λ i. i) opened) r) ≡ spelt_classes (spell_row bytes o (comma q))) × (classes
      (yield_last (norm_row o Tree.opening (λ i. i) opened) r) ≡ spelt_classes (spell_row bytes o q)) →
      classes (yield_attributes (closed_tuple (norm_row o Tree.opening (λ i. i) opened)) r) ≡ spelt_classes (spell_row bytes o (after_one o q))
  tuple_last (Tree.row_first i c) r q e = e.0
  tuple_last (Tree.row_led b i c) r q e = e.0
  tuple_last (Tree.row_next o i c) r q e = e.1

  -- ---- values

  mutual
    value_same : (v : Value) (r : List Tok) (q : List Spelt) → classes r ≡ spelt_classes q → classes (yield_plain (norm v) r) ≡ spelt_classes (spell bytes v q)
    value_same (Tree.plain p) r q e = plain_same p r q e
    value_same (Tree.bare h s) r q e = also _ e

    plain_same : (p : Plain) (r : List Tok) (q : List Spelt) → classes r ≡ spelt_classes q →
        classes (yield_plain (norm_plain p) r) ≡ spelt_classes (spell_plain bytes p q)
    plain_same (Tree.literal a s) r q e = also _ e
    plain_same (Tree.text x s) r q e = text_same x s r q e
    plain_same (Tree.nesting n) r q e = names_same n r q e
    plain_same (Tree.group o v c) r q e = value_same v r q e
    plain_same (Tree.pair o p k v c) r q e = also round (plain_same p _ _ (also _ (value_same v _ _ (also _ e))))
    plain_same (Tree.arrowed o v a k w c) r q e =
        pair_same a o k c (norm v) (norm w) (λ x. spell bytes v x) (λ x. spell bytes w x) (λ x y z. value_same v x y z) (λ x y z. value_same w x y z) r q e
    plain_same (Tree.tuple o l c) r q e = also round (attributes_same l _ _ (also _ e))
    plain_same (Tree.lot o l c) r q e = also curly (listing_same l _ _ (also _ e))
    plain_same (Tree.counted o h s k b l x c) r q e = also round (also _ (also _ (also curly (listing_same l _ _ (also _ (also _ e))))))
    plain_same (Tree.interval o b c) r q e = also square (bounds_same b _ _ (also _ e))

    item_same : {s : Style} (i : Item s) (r : List Tok) (q : List Spelt) → classes r ≡ spelt_classes q →
        classes (yield_item (norm_item i) r) ≡ spelt_classes (spell_item bytes i q)
    item_same (Tree.alone v) r q e = value_same v r q e
    item_same (Tree.open_named n k v) r q e = plain_name_same n _ _ (also _ (value_same v r q e))
    item_same (Tree.named n k v) r q e = name_same n _ _ (also _ (value_same v r q e))
    item_same (Tree.joined v j k w) r q e =
        join_same j k (norm v) (norm w) (λ x. spell bytes v x) (λ x. spell bytes w x) (λ x y z. value_same v x y z) (λ x y z. value_same w x y z) r q e
    item_same (Tree.times v k c) r q e = value_same v _ _ (also _ (count_same c r q e))

    -- with a comma behind the last item, and without
    row_same : {f s : Style} (o : Row f s) (t : Style) (g : Item f → Item t) (h : Item s → Item t) →
        ((i : Item f) (r : List Tok) → classes (yield_item (g (norm_item i)) r) ≡ classes (yield_item (norm_item i) r)) →
        ((i : Item s) (r : List Tok) → classes (yield_item (h (norm_item i)) r) ≡ classes (yield_item (norm_item i) r)) →
        (r : List Tok) (q : List Spelt) → classes r ≡ spelt_classes q →
        (classes (yield_row (norm_row o t g h) r) ≡ spelt_classes (spell_row bytes o (comma q))) × (classes (yield_last (norm_row o t g h) r) ≡ spelt_classes
        (spell_row bytes o q))
    row_same (Tree.row_first i c) t g h x y r q e = (x i _ ∙ item_same i _ _ (also _ e), x i _ ∙ item_same i r q e)
    row_same (Tree.row_led b i c) t g h x y r q e = (y i _ ∙ item_same i _ _ (also _ e), y i _ ∙ item_same i r q e)
    row_same (Tree.row_next o i c) t g h x y r q e = (
      (row_same o t g h x y _ (spell_item bytes i (comma q)) (item_same i _ _ (also _ e))).0,
      (row_same o t g h x y _ (spell_item bytes i q)
          (item_same i r q e)).0,
    )

    listing_same : {s : Style} (l : Listing s) (r : List Tok) (q : List Spelt) → classes r ≡ spelt_classes q →
        classes (yield_listing (norm_listing l) r) ≡ spelt_classes (spell_listing bytes l q)
    listing_same Tree.no_item r q e = e
    listing_same (Tree.one_comma c) r q e = e
    listing_same (Tree.two_commas c d) r q e = e
    listing_same (Tree.one_item i) r q e = item_same i r q e
    listing_same (Tree.led_item c i) r q e = item_same i r q e
    listing_same (Tree.trailing {s} o) r q e = ap classes (closed_last o r) ∙ (row_same o s (λ i. i) (λ i. i) (λ i r. refl) (λ i r. refl) r q e).1
    listing_same (Tree.last_item {s} o i) r q e = (row_same o s (λ i. i) (λ i. i) (λ i r. refl) (λ i r. refl) _ (spell_item bytes i q) (item_same i r q e)).0

    attributes_same : (l : Attributes) (r : List Tok) (q : List Spelt) → classes r ≡ spelt_classes q →
        classes (yield_attributes (norm_attributes l) r) ≡ spelt_classes (spell_attributes bytes l q)
    attributes_same Tree.no_attribute r q e = e
    attributes_same (Tree.led_attribute c i) r q e = opened_same i _ ∙ item_same i _ _ (also _ e)
    attributes_same (Tree.trailing_comma o) r q e = tuple_last o r q (row_same o Tree.opening (λ i. i) opened (λ i r. refl) opened_same r q e)
    attributes_same (Tree.last_attribute o i) r q e =
        (row_same o Tree.opening (λ i. i) opened (λ i r. refl) opened_same _ (spell_item bytes i q) (item_same i r q e)).0

    bounds_same : (b : Bounds) (r : List Tok) (q : List Spelt) → classes r ≡ spelt_classes q →
        classes (yield_bounds (norm_bounds b) r) ≡ spelt_classes (spell_bounds bytes b q)
    bounds_same Tree.empty r q e = e
    bounds_same (Tree.single v) r q e = value_same v r q e
    bounds_same (Tree.between v b k w) r q e = value_same v _ _ (also _ (value_same w r q e))
    bounds_same (Tree.from v a k) r q e = value_same v _ _ (also _ e)
    bounds_same (Tree.up_to a k v) r q e = also _ (value_same v r q e)
    bounds_same (Tree.all k) r q e = also _ e

  -- the tokens of the plain form are those of a tree that is the normal one but for its spans
  pub plain_tree : (v : Value) → (w : Value) × (toks 0 (spell bytes v []) ≡ yield_value w []) × (blank w ≡ blank (Tree.plain (norm v)))
  plain_tree v = reshape_all (Tree.plain (norm v)) (toks 0 (spell bytes v [])) (tok_classes 0 (spell bytes v []) ∙ sym (value_same v [] [] refl))
