-- Normal trees: what `norm` gives is of the level, and the plain form of a normal tree is its tokens, each spelled by its class. Assumes nothing.
use mathlib.Core.Path.{◌≡◌, refl, ap, ◌∙◌}
use mathlib.Core.Bool.{true, ◌&&◌}
use mathlib.Core.List.{List, [], ◌∷◌}
use Prim.Native.Nat.{ℕ}
use Rattle.rules.specs.Class.{codes}
use Rattle.rules.proofs.Bools.{and_left, and_right, and_both}
use Rattle.grammar.specs.Tokens
use Rattle.grammar.specs.Tokens.{Span, Class, Tok, tok, Wording, Spelling, spelled, quoted, word, code_point_of, names}
use Rattle.grammar.specs.Tree
use Rattle.grammar.specs.Tree.{Names, one_name, more_names, PlainName, text_name, nesting_name, Name, plain_name, bare_name, Arrow, rightward, leftward, Joiner, Collection, Measure, Count, number, truth, Style, Value, Plain, Item, Row, Listing, Attributes, Bounds}
use Rattle.grammar.specs.Level.{Level, intervals, has_collection, has_arrow_of, has_joiner, keeps, keeps_plain, keeps_item, keeps_row, keeps_listing, keeps_attributes, keeps_bounds}
use Rattle.grammar.specs.Yield.{yield_names, yield_plain_name, yield_name, yield_count, yield_value, yield_plain, yield_item, yield_row, yield_listing, yield_attributes, yield_bounds}
use Rattle.form.specs.Spell.{Spelt, put, comma, part, spell_text, spell_names, spell_plain_name, spell_name, spell_count, after_one, spell, spell_plain, spell_item, spell_row, spell_listing, spell_attributes, spell_bounds}
use Rattle.form.proofs.Reshape.{blank_names, blank_plain_name, blank_name, blank, blank_plain, blank_item, blank_row, blank_listing, blank_attributes, blank_bounds}
use Rattle.form.proofs.Spelts.{own}
use Rattle.form.proofs.Normal.{norm_wording, norm_names, norm_plain_name, norm_name, pair_up, join_up, opened, closed, closed_tuple, norm, norm_plain, norm_item, norm_row, norm_listing, norm_attributes, norm_bounds}

-- ---- normal trees of a level

abbrev NeatWording : Wording → Type 0
NeatWording (spelled x) = Unit {0}
NeatWording (Tokens.head_word h) = ⊥

abbrev NeatNames : Names → Type 0
NeatNames (one_name s w t) = NeatWording w
NeatNames (more_names n s w t) = NeatNames n × NeatWording w

abbrev NeatPlainName : PlainName → Type 0
NeatPlainName (text_name w s) = Unit {0}
NeatPlainName (nesting_name n) = NeatNames n

abbrev NeatName : Name → Type 0
NeatName (plain_name n) = NeatPlainName n
NeatName (bare_name h s) = ⊥

-- a row of one item
abbrev Single : {f s : Style} → Row f s → Type 0
Single (Tree.row_first i c) = Unit {0}
Single (Tree.row_led b i c) = ⊥
Single (Tree.row_next o i c) = ⊥

-- tokens of a text as they are spelled
abbrev pub respell : List ℕ → List Tok → List Spelt
respell bytes [] = []
respell bytes (t ∷ ts) = put t.class (own t.class (part bytes t.at)) (respell bytes ts)

module _ (l : Level) where
  abbrev mutual
    pub Neat : Value → Type 0
    Neat (Tree.plain p) = NeatPlain p
    Neat (Tree.bare h s) = ⊥

    NeatPlain : Plain → Type 0
    NeatPlain (Tree.literal a s) = Unit {0}
    NeatPlain (Tree.text w s) = Unit {0}
    NeatPlain (Tree.nesting n) = NeatNames n
    NeatPlain (Tree.group o v c) = ⊥
    NeatPlain (Tree.pair o p k v c) = NeatPlain p × Neat v
    NeatPlain (Tree.arrowed o v a k w c) = ⊥
    NeatPlain (Tree.tuple o i c) = NeatAttributes i
    NeatPlain (Tree.lot o i c) = NeatListing i
    NeatPlain (Tree.counted o h s k b i e c) = (has_collection l h ≡ true) × NeatListing i
    NeatPlain (Tree.interval o b c) = (l intervals ≡ true) × NeatBounds b

    NeatItem : {s : Style} → Item s → Type 0
    NeatItem (Tree.alone v) = Neat v
    NeatItem (Tree.open_named n k v) = NeatPlainName n × Neat v
    NeatItem (Tree.named n k v) = NeatName n × Neat v
    NeatItem (Tree.joined v Tree.colon k w) = Neat v × Neat w
    NeatItem (Tree.joined v (Tree.arrow a) k w) = ⊥
    NeatItem (Tree.times v k c) = Neat v

    NeatRow : {f s : Style} → Row f s → Type 0
    NeatRow (Tree.row_first i c) = NeatItem i
    NeatRow (Tree.row_led b i c) = ⊥
    NeatRow (Tree.row_next o i c) = NeatRow o × NeatItem i

    NeatListing : {s : Style} → Listing s → Type 0
    NeatListing Tree.no_item = Unit {0}
    NeatListing (Tree.one_comma c) = ⊥
    NeatListing (Tree.two_commas c d) = ⊥
    NeatListing (Tree.one_item i) = NeatItem i
    NeatListing (Tree.led_item c i) = ⊥
    NeatListing (Tree.trailing o) = ⊥
    NeatListing (Tree.last_item o i) = NeatRow o × NeatItem i

    NeatAttributes : Attributes → Type 0
    NeatAttributes Tree.no_attribute = Unit {0}
    NeatAttributes (Tree.led_attribute c i) = ⊥
    NeatAttributes (Tree.trailing_comma o) = Single o × NeatRow o
    NeatAttributes (Tree.last_attribute o i) = NeatRow o × NeatItem i

    NeatBounds : Bounds → Type 0
    NeatBounds Tree.empty = Unit {0}
    NeatBounds (Tree.single v) = Neat v
    NeatBounds (Tree.between v b k w) = Neat v × Neat w
    NeatBounds (Tree.from v a k) = Neat v
    NeatBounds (Tree.up_to a k v) = Neat v
    NeatBounds (Tree.all k) = Unit {0}

  -- ---- what `norm` gives is normal and of the level

  wording_neat : (w : Wording) → NeatWording (norm_wording w)
  wording_neat (spelled x) = tt
  wording_neat (Tokens.head_word h) = tt

  names_neat : (n : Names) → NeatNames (blank_names (norm_names n))
  names_neat (one_name s w t) = wording_neat w
  names_neat (more_names n s w t) = (names_neat n, wording_neat w)

  plain_name_neat : (n : PlainName) → NeatPlainName (blank_plain_name (norm_plain_name n))
  plain_name_neat (text_name w s) = tt
  plain_name_neat (nesting_name n) = names_neat n

  name_neat : (n : Name) → NeatPlainName (blank_plain_name (norm_name n))
  name_neat (plain_name n) = plain_name_neat n
  name_neat (bare_name h s) = tt

  pair_neat : (a : Arrow) (o k c : Span) (x y : Plain) → NeatPlain (blank_plain x) → NeatPlain (blank_plain y) → NeatPlain (blank_plain (pair_up a o x k y c))
  pair_neat rightward o k c x y h i = (h, i)
  pair_neat leftward o k c x y h i = (i, h)

  join_neat : (j : Joiner) (k : Span) (x y : Plain) → NeatPlain (blank_plain x) → NeatPlain (blank_plain y) → NeatItem (blank_item (join_up j x k y))
  join_neat Tree.colon k x y h i = (h, i)
  join_neat (Tree.arrow rightward) k x y h i = (h, i)
  join_neat (Tree.arrow leftward) k x y h i = (i, h)

  first_neat : (i : Item Tree.opening) (c : Span) → NeatItem (blank_item i) → NeatAttributes (blank_attributes (Tree.trailing_comma (Tree.row_first i c)))
  first_neat i c h = (tt, h)

  opened_neat : (i : Item Tree.attribute) → NeatItem (blank_item i) → NeatItem (blank_item (opened i))
  opened_neat (Tree.alone v) h = h
  opened_neat (Tree.named (plain_name n) k v) h = h
  opened_neat (Tree.named (bare_name x s) k v) h = absurd h.0

  closed_neat : {s : Style} (o : Row s s) → NeatRow (blank_row o) → NeatListing (blank_listing (closed o))
  closed_neat (Tree.row_first i c) h = h
  closed_neat (Tree.row_led b i c) h = absurd h
  closed_neat (Tree.row_next o i c) h = h

  tuple_neat : (o : Row Tree.opening Tree.attribute) → NeatRow (blank_row o) → NeatAttributes (blank_attributes (closed_tuple o))
  tuple_neat (Tree.row_first i c) h = (tt, h)
  tuple_neat (Tree.row_led b i c) h = absurd h
  tuple_neat (Tree.row_next o i c) h = h

  -- of a level that has at least the collections and Intervals of the text's; arrows are gone
  module _ (old : Level) (collections : (h : Collection) → has_collection old h ≡ true → has_collection l h ≡ true)
      (ranges : old intervals ≡ true → l intervals ≡ true) where
    mutual
      pub value_neat : (v : Value) → keeps old v ≡ true → NeatPlain (blank_plain (norm v))
      value_neat (Tree.plain p) h = plain_neat p h
      value_neat (Tree.bare x s) h = tt

      plain_neat : (p : Plain) → keeps_plain old p ≡ true → NeatPlain (blank_plain (norm_plain p))
      plain_neat (Tree.literal a s) h = tt
      plain_neat (Tree.text w s) h = tt
      plain_neat (Tree.nesting n) h = names_neat n
      plain_neat (Tree.group o v c) h = value_neat v h
      plain_neat (Tree.pair o p k v c) h = (plain_neat p (and_left _ _ h), value_neat v (and_right (keeps_plain old p) _ h))
      plain_neat (Tree.arrowed o v a k w c) h =
          pair_neat a o k c (norm v) (norm w)
          (value_neat v (and_left (keeps old v) (has_arrow_of old a) (and_left (keeps old v && has_arrow_of old a) (keeps old w) h)))
          (value_neat w (and_right (keeps old v && has_arrow_of old a) (keeps old w) h))
      plain_neat (Tree.tuple o i c) h = attributes_neat i h
      plain_neat (Tree.lot o i c) h = listing_neat i h
      plain_neat (Tree.counted o x s k b i e c) h = (collections x (and_left _ _ h), listing_neat i (and_right (has_collection old x) _ h))
      plain_neat (Tree.interval o b c) h = (ranges (and_left _ _ h), bounds_neat b (and_right (old intervals) _ h))

      item_neat : {s : Style} (i : Item s) → keeps_item old i ≡ true → NeatItem (blank_item (norm_item i))
      item_neat (Tree.alone v) h = value_neat v h
      item_neat (Tree.open_named n k v) h = (plain_name_neat n, value_neat v h)
      item_neat (Tree.named n k v) h = (name_neat n, value_neat v h)
      item_neat (Tree.joined v j k w) h =
          join_neat j k (norm v) (norm w) (value_neat v (and_left (keeps old v) (has_joiner old j) (and_left (keeps old v && has_joiner old j) (keeps old w) h)))
          (value_neat w (and_right (keeps old v && has_joiner old j) (keeps old w) h))
      item_neat (Tree.times v k c) h = value_neat v h

      row_neat : {f s : Style} (o : Row f s) (t : Style) (x : Item f → Item t) (y : Item s → Item t) →
          ((i : Item f) → NeatItem (blank_item i) → NeatItem (blank_item (x i))) → ((i : Item s) → NeatItem (blank_item i) → NeatItem (blank_item (y i))) →
          keeps_row old o ≡ true → NeatRow (blank_row (norm_row o t x y))
      row_neat (Tree.row_first i c) t x y f g h = f (norm_item i) (item_neat i h)
      row_neat (Tree.row_led b i c) t x y f g h = g (norm_item i) (item_neat i h)
      row_neat (Tree.row_next o i c) t x y f g h = (row_neat o t x y f g (and_left _ _ h), item_neat i (and_right (keeps_row old o) _ h))

      listing_neat : {s : Style} (i : Listing s) → keeps_listing old i ≡ true → NeatListing (blank_listing (norm_listing i))
      listing_neat Tree.no_item h = tt
      listing_neat (Tree.one_comma c) h = tt
      listing_neat (Tree.two_commas c d) h = tt
      listing_neat (Tree.one_item i) h = item_neat i h
      listing_neat (Tree.led_item c i) h = item_neat i h
      listing_neat (Tree.trailing {s} o) h = closed_neat (norm_row o s (λ i. i) (λ i. i)) (row_neat o s (λ i. i) (λ i. i) (λ i x. x) (λ i x. x) h)
      listing_neat (Tree.last_item {s} o i) h =
          (row_neat o s (λ i. i) (λ i. i) (λ i x. x) (λ i x. x) (and_left _ _ h), item_neat i (and_right (keeps_row old o) _ h))

      attributes_neat : (i : Attributes) → keeps_attributes old i ≡ true → NeatAttributes (blank_attributes (norm_attributes i))
      attributes_neat Tree.no_attribute h = tt
      attributes_neat (Tree.led_attribute c i) h = first_neat (opened (norm_item i)) c (opened_neat (norm_item i) (item_neat i h))
      attributes_neat (Tree.trailing_comma o) h =
          tuple_neat (norm_row o Tree.opening (λ i. i) opened) (row_neat o Tree.opening (λ i. i) opened (λ i x. x) opened_neat h)
      attributes_neat (Tree.last_attribute o i) h =
          (row_neat o Tree.opening (λ i. i) opened (λ i x. x) opened_neat (and_left _ _ h), item_neat i (and_right (keeps_row old o) _ h))

      bounds_neat : (b : Bounds) → keeps_bounds old b ≡ true → NeatBounds (blank_bounds (norm_bounds b))
      bounds_neat Tree.empty h = tt
      bounds_neat (Tree.single v) h = value_neat v h
      bounds_neat (Tree.between v b k w) h = (value_neat v (and_left _ _ h), value_neat w (and_right (keeps old v) _ h))
      bounds_neat (Tree.from v a k) h = value_neat v h
      bounds_neat (Tree.up_to a k v) h = value_neat v h
      bounds_neat (Tree.all k) h = tt

  -- ---- a normal tree is of the level

  mutual
    pub value_kept : (v : Value) → Neat (blank v) → keeps l v ≡ true
    value_kept (Tree.plain p) h = plain_kept p h
    value_kept (Tree.bare x s) h = absurd h

    plain_kept : (p : Plain) → NeatPlain (blank_plain p) → keeps_plain l p ≡ true
    plain_kept (Tree.literal a s) h = refl
    plain_kept (Tree.text w s) h = refl
    plain_kept (Tree.nesting n) h = refl
    plain_kept (Tree.group o v c) h = absurd h
    plain_kept (Tree.pair o p k v c) h = and_both _ _ (plain_kept p h.0) (value_kept v h.1)
    plain_kept (Tree.arrowed o v a k w c) h = absurd h
    plain_kept (Tree.tuple o i c) h = attributes_kept i h
    plain_kept (Tree.lot o i c) h = listing_kept i h
    plain_kept (Tree.counted o x s k b i e c) h = and_both _ _ h.0 (listing_kept i h.1)
    plain_kept (Tree.interval o b c) h = and_both _ _ h.0 (bounds_kept b h.1)

    item_kept : {s : Style} (i : Item s) → NeatItem (blank_item i) → keeps_item l i ≡ true
    item_kept (Tree.alone v) h = value_kept v h
    item_kept (Tree.open_named n k v) h = value_kept v h.1
    item_kept (Tree.named n k v) h = value_kept v h.1
    item_kept (Tree.joined v Tree.colon k w) h =
        and_both (keeps l v && true) (keeps l w) (and_both (keeps l v) true (value_kept v h.0) refl) (value_kept w h.1)
    item_kept (Tree.joined v (Tree.arrow a) k w) h = absurd h
    item_kept (Tree.times v k c) h = value_kept v h

    row_kept : {f s : Style} (o : Row f s) → NeatRow (blank_row o) → keeps_row l o ≡ true
    row_kept (Tree.row_first i c) h = item_kept i h
    row_kept (Tree.row_led b i c) h = absurd h
    row_kept (Tree.row_next o i c) h = and_both _ _ (row_kept o h.0) (item_kept i h.1)

    listing_kept : {s : Style} (i : Listing s) → NeatListing (blank_listing i) → keeps_listing l i ≡ true
    listing_kept Tree.no_item h = refl
    listing_kept (Tree.one_comma c) h = absurd h
    listing_kept (Tree.two_commas c d) h = absurd h
    listing_kept (Tree.one_item i) h = item_kept i h
    listing_kept (Tree.led_item c i) h = absurd h
    listing_kept (Tree.trailing o) h = absurd h
    listing_kept (Tree.last_item o i) h = and_both _ _ (row_kept o h.0) (item_kept i h.1)

    attributes_kept : (i : Attributes) → NeatAttributes (blank_attributes i) → keeps_attributes l i ≡ true
    attributes_kept Tree.no_attribute h = refl
    attributes_kept (Tree.led_attribute c i) h = absurd h
    attributes_kept (Tree.trailing_comma o) h = row_kept o h.1
    attributes_kept (Tree.last_attribute o i) h = and_both _ _ (row_kept o h.0) (item_kept i h.1)

    bounds_kept : (b : Bounds) → NeatBounds (blank_bounds b) → keeps_bounds l b ≡ true
    bounds_kept Tree.empty h = refl
    bounds_kept (Tree.single v) h = value_kept v h
    bounds_kept (Tree.between v b k w) h = and_both _ _ (value_kept v h.0) (value_kept w h.1)
    bounds_kept (Tree.from v a k) h = value_kept v h
    bounds_kept (Tree.up_to a k v) h = value_kept v h
    bounds_kept (Tree.all k) h = refl

  -- ---- the plain form of a normal tree, from its tokens

  module _ (bytes : List ℕ) where
    again : (c : Class) (b : List ℕ) {p q : List Spelt} → p ≡ q → put c b p ≡ put c b q
    again c b e = ap (λ (r : List Spelt). put c b r) e

    text_again : (x : Spelling) (s : Span) (r : List Tok) (q : List Spelt) → q ≡ respell bytes r →
        spell_text bytes x s q ≡ respell bytes (tok (Tokens.text (spelled x)) s ∷ r)
    text_again quoted s r q e = again _ _ e
    text_again word s r q e = again _ _ e
    text_again code_point_of s r q e = again _ _ e

    names_again : (n : Names) → NeatNames (blank_names n) → (r : List Tok) (q : List Spelt) → q ≡ respell bytes r →
        spell_names bytes n q ≡ respell bytes (yield_names n r)
    names_again (one_name s (spelled x) t) h r q e = again _ _ (text_again x t r q e)
    names_again (one_name s (Tokens.head_word x) t) h r q e = absurd h
    names_again (more_names n s (spelled x) t) h r q e =
        names_again n h.0 (tok names s ∷ tok (Tokens.text (spelled x)) t ∷ r) _ (again names (codes "::") (text_again x t r q e))
    names_again (more_names n s (Tokens.head_word x) t) h r q e = absurd h.1

    plain_name_again : (n : PlainName) → NeatPlainName (blank_plain_name n) → (r : List Tok) (q : List Spelt) → q ≡ respell bytes r →
        spell_plain_name bytes n q ≡ respell bytes (yield_plain_name n r)
    plain_name_again (text_name x s) h r q e = text_again x s r q e
    plain_name_again (nesting_name n) h r q e = names_again n h r q e

    name_again : (n : Name) → NeatName (blank_name n) → (r : List Tok) (q : List Spelt) → q ≡ respell bytes r → spell_name bytes n q ≡ respell bytes (yield_name n r)
    name_again (plain_name n) h r q e = plain_name_again n h r q e
    name_again (bare_name x s) h r q e = absurd h

    count_again : {u : Measure} (c : Count u) (r : List Tok) (q : List Spelt) → q ≡ respell bytes r → spell_count bytes c q ≡ respell bytes (yield_count c r)
    count_again (number s) r q e = again _ _ e
    count_again (truth b s) r q e = again _ _ e

    single_after : {f s : Style} (o : Row f s) → Single (blank_row o) → (q : List Spelt) → after_one o q ≡ comma q
    single_after (Tree.row_first i c) h q = refl
    single_after (Tree.row_led b i c) h q = absurd h
    single_after (Tree.row_next o i c) h q = absurd h

    mutual
      pub value_again : (v : Value) → Neat (blank v) → (r : List Tok) (q : List Spelt) → q ≡ respell bytes r → spell bytes v q ≡ respell bytes (yield_value v r)
      value_again (Tree.plain p) h r q e = plain_again p h r q e
      value_again (Tree.bare x s) h r q e = absurd h

      plain_again : (p : Plain) → NeatPlain (blank_plain p) → (r : List Tok) (q : List Spelt) → q ≡ respell bytes r →
          spell_plain bytes p q ≡ respell bytes (yield_plain p r)
      plain_again (Tree.literal a s) h r q e = again _ _ e
      plain_again (Tree.text x s) h r q e = text_again x s r q e
      plain_again (Tree.nesting n) h r q e = names_again n h r q e
      plain_again (Tree.group o v c) h r q e = absurd h
      plain_again (Tree.pair o p k v c) h r q e = again _ _ (plain_again p h.0 _ _ (again _ _ (value_again v h.1 _ _ (again _ _ e))))
      plain_again (Tree.arrowed o v a k w c) h r q e = absurd h
      plain_again (Tree.tuple o i c) h r q e = again _ _ (attributes_again i h _ _ (again _ _ e))
      plain_again (Tree.lot o i c) h r q e = again _ _ (listing_again i h _ _ (again _ _ e))
      plain_again (Tree.counted o x s k b i z c) h r q e =
          again _ _ (again _ _ (again _ _ (again _ _ (listing_again i h.1 _ _ (again _ _ (again _ _ e))))))
      plain_again (Tree.interval o b c) h r q e = again _ _ (bounds_again b h.1 _ _ (again _ _ e))

      item_again : {s : Style} (i : Item s) → NeatItem (blank_item i) → (r : List Tok) (q : List Spelt) → q ≡ respell bytes r →
          spell_item bytes i q ≡ respell bytes (yield_item i r)
      item_again (Tree.alone v) h r q e = value_again v h r q e
      item_again (Tree.open_named n k v) h r q e = plain_name_again n h.0 _ _ (again _ _ (value_again v h.1 r q e))
      item_again (Tree.named n k v) h r q e = name_again n h.0 _ _ (again _ _ (value_again v h.1 r q e))
      item_again (Tree.joined v Tree.colon k w) h r q e = value_again v h.0 _ _ (again _ _ (value_again w h.1 r q e))
      item_again (Tree.joined v (Tree.arrow a) k w) h r q e = absurd h
      item_again (Tree.times v k c) h r q e = value_again v h _ _ (again _ _ (count_again c r q e))

      row_again : {f s : Style} (o : Row f s) → NeatRow (blank_row o) → (r : List Tok) (q : List Spelt) → q ≡ respell bytes r →
          spell_row bytes o (comma q) ≡ respell bytes (yield_row o r)
      row_again (Tree.row_first i c) h r q e = item_again i h _ _ (again _ _ e)
      row_again (Tree.row_led b i c) h r q e = absurd h
      row_again (Tree.row_next o i c) h r q e = row_again o h.0 _ _ (item_again i h.1 _ _ (again _ _ e))

      listing_again : {s : Style} (i : Listing s) → NeatListing (blank_listing i) → (r : List Tok) (q : List Spelt) → q ≡ respell bytes r →
          spell_listing bytes i q ≡ respell bytes (yield_listing i r)
      listing_again Tree.no_item h r q e = e
      listing_again (Tree.one_comma c) h r q e = absurd h
      listing_again (Tree.two_commas c d) h r q e = absurd h
      listing_again (Tree.one_item i) h r q e = item_again i h r q e
      listing_again (Tree.led_item c i) h r q e = absurd h
      listing_again (Tree.trailing o) h r q e = absurd h
      listing_again (Tree.last_item o i) h r q e = row_again o h.0 _ _ (item_again i h.1 r q e)

      attributes_again : (i : Attributes) → NeatAttributes (blank_attributes i) → (r : List Tok) (q : List Spelt) → q ≡ respell bytes r →
          spell_attributes bytes i q ≡ respell bytes (yield_attributes i r)
      attributes_again Tree.no_attribute h r q e = e
      attributes_again (Tree.led_attribute c i) h r q e = absurd h
      attributes_again (Tree.trailing_comma o) h r q e = ap (spell_row bytes o) (single_after o h.0 q) ∙ row_again o h.1 r q e
      attributes_again (Tree.last_attribute o i) h r q e = row_again o h.0 _ _ (item_again i h.1 r q e)

      bounds_again : (b : Bounds) → NeatBounds (blank_bounds b) → (r : List Tok) (q : List Spelt) → q ≡ respell bytes r →
          spell_bounds bytes b q ≡ respell bytes (yield_bounds b r)
      bounds_again Tree.empty h r q e = e
      bounds_again (Tree.single v) h r q e = value_again v h r q e
      bounds_again (Tree.between v b k w) h r q e = value_again v h.0 _ _ (again _ _ (value_again w h.1 r q e))
      bounds_again (Tree.from v a k) h r q e = value_again v h _ _ (again _ _ e)
      bounds_again (Tree.up_to a k v) h r q e = again _ _ (value_again v h r q e)
      bounds_again (Tree.all k) h r q e = again _ _ e
