-- A tree whose tokens are replaced by others of the same classes is the same tree but for its spans. Assumes nothing.
use mathlib.Core.Path.{◌≡◌, refl, ap, ◌∙◌}
use mathlib.Core.List.{List, [], ◌∷◌, cons≢nil}
use mathlib.Core.Bool.{false}
use Prim.Native.Nat.{ℕ}
use native.Mathlib.Omega.{arith}
use Rattle.lexicon.specs.declared.Bound.TheVariants.{Open}
use Rattle.grammar.specs.Tokens
use Rattle.grammar.specs.Tokens.{Span, Tok, tok, Class}
use Rattle.grammar.specs.Tree
use Rattle.grammar.specs.Tree.{Names, PlainName, Name, Measure, Count, Style, Value, Plain, Item, Row, Listing, Attributes, Bounds}
use Rattle.grammar.specs.Yield.{arrow_mark, joiner_mark, collection_head, between_mark, side_bound, yield_names, yield_plain_name, yield_name, yield_count, yield_value, yield_plain, yield_item, yield_row, yield_listing, yield_attributes, yield_bounds}
use Rattle.grammar.proofs.Moved.{move_names, move_plain_name, move_name, move_count, move, move_plain, move_item, move_row, move_listing, move_attributes, move_bounds}
use Rattle.form.specs.Turn.{nowhere}
use Rattle.form.specs.Spellable.{classes}

-- every place moved to 0, and so every span to `nowhere`
abbrev pub away : ℕ → ℕ
away n = 0

-- a tree without its spans, and its parts
abbrev pub blank_names : Names → Names
blank_names x = move_names away x

abbrev pub blank_plain_name : PlainName → PlainName
blank_plain_name x = move_plain_name away x

abbrev pub blank_name : Name → Name
blank_name x = move_name away x

abbrev pub blank_count : {u : Measure} → Count u → Count u
blank_count x = move_count away x

abbrev pub blank : Value → Value
blank x = move away x

abbrev pub blank_plain : Plain → Plain
blank_plain x = move_plain away x

abbrev pub blank_item : {s : Style} → Item s → Item s
blank_item x = move_item away x

abbrev pub blank_row : {f s : Style} → Row f s → Row f s
blank_row x = move_row away x

abbrev pub blank_listing : {s : Style} → Listing s → Listing s
blank_listing x = move_listing away x

abbrev pub blank_attributes : Attributes → Attributes
blank_attributes x = move_attributes away x

abbrev pub blank_bounds : Bounds → Bounds
blank_bounds x = move_bounds away x

-- the first token, of a class that is known
record First (c : Class) (r ts : List Tok) : Type 0 where
  at : Span
  rest : List Tok
  begins : ts ≡ tok c at ∷ rest
  alike : classes rest ≡ classes r

abbrev size : List Class → ℕ
size [] = 0
size (c ∷ cs) = 1

tail_same : {c d : Class} {cs ds : List Class} → ◌≡◌ {A = List Class} (c ∷ cs) (d ∷ ds) → cs ≡ ds
tail_same e = cc e

head_same_lem : {c d : Class} {cs ds : List Class} → ◌≡◌ {A = List Class} (c ∷ cs) (d ∷ ds) → c ≡ d
head_same_lem e = cc e

pop : (c : Class) (r ts : List Tok) → classes ts ≡ c ∷ classes r → First c r ts
pop c r [] e = absurd (let z : ◌≡◌ {A = ℕ} 0 1 = ap size e in omega arith)
pop c r (t ∷ ts) e = record { at = t.at; rest = ts; begins = ap (λ (x : Class). tok x t.at ∷ ts) (head_same_lem e); alike = tail_same e }

reshape_names : (x : Names) (r ts : List Tok) → classes ts ≡ classes (yield_names x r) →
    (w : Names) × (q : List Tok) × (ts ≡ yield_names w q) × (classes q ≡ classes r) × (blank_names w ≡ blank_names x)
reshape_names (Tree.one_name s w t) r ts e =
    let x0 = pop Tokens.names (tok (Tokens.text w) t ∷ r) ts e in
    let x1 = pop (Tokens.text w) r x0.rest x0.alike in
    (Tree.one_name x0.at w x1.at, x1.rest, cc (x0.begins, x1.begins), x1.alike, refl)
reshape_names (Tree.more_names n s w t) r ts e =
    let x0 = reshape_names n (tok Tokens.names s ∷ (tok (Tokens.text w) t ∷ r)) ts e in
    let x1 = pop Tokens.names (tok (Tokens.text w) t ∷ r) x0.1 x0.3 in
    let x2 = pop (Tokens.text w) r x1.rest x1.alike in
    (Tree.more_names x0.0 x1.at w x2.at, x2.rest, cc (x0.2, x1.begins, x2.begins), x2.alike, λ i. Tree.more_names (x0.4 i) nowhere w nowhere)

reshape_plain_name : (x : PlainName) (r ts : List Tok) → classes ts ≡ classes (yield_plain_name x r) →
    (w : PlainName) × (q : List Tok) × (ts ≡ yield_plain_name w q) × (classes q ≡ classes r) × (blank_plain_name w ≡ blank_plain_name x)
reshape_plain_name (Tree.text_name w s) r ts e =
    let x0 = pop (Tokens.text (Tokens.spelled w)) r ts e in
    (Tree.text_name w x0.at, x0.rest, cc x0.begins, x0.alike, refl)
reshape_plain_name (Tree.nesting_name n) r ts e =
    let x0 = reshape_names n r ts e in
    (Tree.nesting_name x0.0, x0.1, cc x0.2, x0.3, λ i. Tree.nesting_name (x0.4 i))

reshape_name : (x : Name) (r ts : List Tok) → classes ts ≡ classes (yield_name x r) →
    (w : Name) × (q : List Tok) × (ts ≡ yield_name w q) × (classes q ≡ classes r) × (blank_name w ≡ blank_name x)
reshape_name (Tree.plain_name n) r ts e =
    let x0 = reshape_plain_name n r ts e in
    (Tree.plain_name x0.0, x0.1, cc x0.2, x0.3, λ i. Tree.plain_name (x0.4 i))
reshape_name (Tree.bare_name h s) r ts e =
    let x0 = pop (Tokens.text (Tokens.head_word h)) r ts e in
    (Tree.bare_name h x0.at, x0.rest, cc x0.begins, x0.alike, refl)

reshape_count : {u : Measure} (x : Count u) (r ts : List Tok) → classes ts ≡ classes (yield_count x r) →
    (w : Count u) × (q : List Tok) × (ts ≡ yield_count w q) × (classes q ≡ classes r) × (blank_count w ≡ blank_count x)
reshape_count (Tree.number s) r ts e =
    let x0 = pop (Tokens.atom (Tokens.integer false)) r ts e in
    (Tree.number x0.at, x0.rest, cc x0.begins, x0.alike, refl)
reshape_count (Tree.truth b s) r ts e =
    let x0 = pop (Tokens.atom (Tokens.boolean b)) r ts e in
    (Tree.truth b x0.at, x0.rest, cc x0.begins, x0.alike, refl)

mutual
  reshape : (x : Value) (r ts : List Tok) → classes ts ≡ classes (yield_value x r) →
      (w : Value) × (q : List Tok) × (ts ≡ yield_value w q) × (classes q ≡ classes r) × (blank w ≡ blank x)
  reshape (Tree.plain p) r ts e =
      let x0 = reshape_plain p r ts e in
      (Tree.plain x0.0, x0.1, cc x0.2, x0.3, λ i. Tree.plain (x0.4 i))
  reshape (Tree.bare h s) r ts e =
      let x0 = pop (Tokens.text (Tokens.head_word h)) r ts e in
      (Tree.bare h x0.at, x0.rest, cc x0.begins, x0.alike, refl)

  reshape_plain : (x : Plain) (r ts : List Tok) → classes ts ≡ classes (yield_plain x r) →
      (w : Plain) × (q : List Tok) × (ts ≡ yield_plain w q) × (classes q ≡ classes r) × (blank_plain w ≡ blank_plain x)
  reshape_plain (Tree.literal a s) r ts e =
      let x0 = pop (Tokens.atom a) r ts e in
      (Tree.literal a x0.at, x0.rest, cc x0.begins, x0.alike, refl)
  reshape_plain (Tree.text w s) r ts e =
      let x0 = pop (Tokens.text (Tokens.spelled w)) r ts e in
      (Tree.text w x0.at, x0.rest, cc x0.begins, x0.alike, refl)
  reshape_plain (Tree.nesting n) r ts e =
      let x0 = reshape_names n r ts e in
      (Tree.nesting x0.0, x0.1, cc x0.2, x0.3, λ i. Tree.nesting (x0.4 i))
  reshape_plain (Tree.group o v c) r ts e =
      let x0 = pop Tokens.round (yield_value v (tok (Tokens.mark Tokens.round_close) c ∷ r)) ts e in
      let x1 = reshape v (tok (Tokens.mark Tokens.round_close) c ∷ r) x0.rest x0.alike in
      let x2 = pop (Tokens.mark Tokens.round_close) r x1.1 x1.3 in
      (Tree.group x0.at x1.0 x2.at, x2.rest, cc (x0.begins, x1.2, x2.begins), x2.alike, λ i. Tree.group nowhere (x1.4 i) nowhere)
  reshape_plain (Tree.pair o p k v c) r ts e =
      let x0 = pop Tokens.round (yield_plain p (tok (Tokens.mark Tokens.colon) k ∷ (yield_value v (tok (Tokens.mark Tokens.round_close) c ∷ r)))) ts e in
      let x1 = reshape_plain p (tok (Tokens.mark Tokens.colon) k ∷ (yield_value v (tok (Tokens.mark Tokens.round_close) c ∷ r))) x0.rest x0.alike in
      let x2 = pop (Tokens.mark Tokens.colon) (yield_value v (tok (Tokens.mark Tokens.round_close) c ∷ r)) x1.1 x1.3 in
      let x3 = reshape v (tok (Tokens.mark Tokens.round_close) c ∷ r) x2.rest x2.alike in
      let x4 = pop (Tokens.mark Tokens.round_close) r x3.1 x3.3 in
      (Tree.pair x0.at x1.0 x2.at x3.0 x4.at, x4.rest, cc (x0.begins, x1.2, x2.begins, x3.2, x4.begins), x4.alike, λ i. Tree.pair nowhere (x1.4 i) nowhere (x3.4 i) nowhere)
  reshape_plain (Tree.arrowed o v a k w c) r ts e =
      let x0 = pop Tokens.round (yield_value v (tok (Tokens.mark (arrow_mark a)) k ∷ (yield_value w (tok (Tokens.mark Tokens.round_close) c ∷ r)))) ts e in
      let x1 = reshape v (tok (Tokens.mark (arrow_mark a)) k ∷ (yield_value w (tok (Tokens.mark Tokens.round_close) c ∷ r))) x0.rest x0.alike in
      let x2 = pop (Tokens.mark (arrow_mark a)) (yield_value w (tok (Tokens.mark Tokens.round_close) c ∷ r)) x1.1 x1.3 in
      let x3 = reshape w (tok (Tokens.mark Tokens.round_close) c ∷ r) x2.rest x2.alike in
      let x4 = pop (Tokens.mark Tokens.round_close) r x3.1 x3.3 in (
        Tree.arrowed x0.at x1.0 a x2.at x3.0 x4.at,
        x4.rest,
        cc (x0.begins, x1.2, x2.begins, x3.2, x4.begins),
        x4.alike,
        λ i. Tree.arrowed nowhere (x1.4 i) a nowhere (x3.4 i) nowhere,
      )
  reshape_plain (Tree.tuple o l c) r ts e =
      let x0 = pop Tokens.round (yield_attributes l (tok (Tokens.mark Tokens.round_close) c ∷ r)) ts e in
      let x1 = reshape_attributes l (tok (Tokens.mark Tokens.round_close) c ∷ r) x0.rest x0.alike in
      let x2 = pop (Tokens.mark Tokens.round_close) r x1.1 x1.3 in
      (Tree.tuple x0.at x1.0 x2.at, x2.rest, cc (x0.begins, x1.2, x2.begins), x2.alike, λ i. Tree.tuple nowhere (x1.4 i) nowhere)
  reshape_plain (Tree.lot o l c) r ts e =
      let x0 = pop Tokens.curly (yield_listing l (tok (Tokens.mark Tokens.curly_close) c ∷ r)) ts e in
      let x1 = reshape_listing l (tok (Tokens.mark Tokens.curly_close) c ∷ r) x0.rest x0.alike in
      let x2 = pop (Tokens.mark Tokens.curly_close) r x1.1 x1.3 in
      (Tree.lot x0.at x1.0 x2.at, x2.rest, cc (x0.begins, x1.2, x2.begins), x2.alike, λ i. Tree.lot nowhere (x1.4 i) nowhere)
  reshape_plain (Tree.counted o h s k b l d c) r ts e =
      let x0 = pop Tokens.round (tok
      (Tokens.text (Tokens.head_word (collection_head h))) s ∷ (tok
      (Tokens.mark Tokens.colon) k ∷ (tok Tokens.curly b ∷ (yield_listing l
      (tok (Tokens.mark Tokens.curly_close) d ∷ (tok (Tokens.mark Tokens.round_close) c ∷ r)))))) ts e in
      let x1 = pop (Tokens.text (Tokens.head_word (collection_head h)))
      (tok (Tokens.mark Tokens.colon) k ∷ (tok Tokens.curly b ∷ (yield_listing l
      (tok (Tokens.mark Tokens.curly_close) d ∷ (tok (Tokens.mark Tokens.round_close) c ∷ r))))) x0.rest x0.alike in
      let x2 = pop (Tokens.mark Tokens.colon)
      (tok Tokens.curly b ∷ (yield_listing l (tok (Tokens.mark Tokens.curly_close) d ∷ (tok (Tokens.mark Tokens.round_close) c ∷ r)))) x1.rest
      x1.alike in
      let x3 = pop Tokens.curly (yield_listing l (tok (Tokens.mark Tokens.curly_close) d ∷ (tok (Tokens.mark Tokens.round_close) c ∷ r))) x2.rest x2.alike in
      let x4 = reshape_listing l (tok (Tokens.mark Tokens.curly_close) d ∷ (tok (Tokens.mark Tokens.round_close) c ∷ r)) x3.rest x3.alike in
      let x5 = pop (Tokens.mark Tokens.curly_close) (tok (Tokens.mark Tokens.round_close) c ∷ r) x4.1 x4.3 in
      let x6 = pop (Tokens.mark Tokens.round_close) r x5.rest x5.alike in (
        Tree.counted x0.at h x1.at x2.at x3.at x4.0 x5.at x6.at,
        x6.rest,
        cc
            (x0.begins, x1.begins, x2.begins, x3.begins, x4.2, x5.begins, x6.begins),
        x6.alike,
        λ i. Tree.counted nowhere h nowhere nowhere nowhere (x4.4 i) nowhere nowhere,
      )
  reshape_plain (Tree.interval o b c) r ts e =
      let x0 = pop Tokens.square (yield_bounds b (tok (Tokens.mark Tokens.square_close) c ∷ r)) ts e in
      let x1 = reshape_bounds b (tok (Tokens.mark Tokens.square_close) c ∷ r) x0.rest x0.alike in
      let x2 = pop (Tokens.mark Tokens.square_close) r x1.1 x1.3 in
      (Tree.interval x0.at x1.0 x2.at, x2.rest, cc (x0.begins, x1.2, x2.begins), x2.alike, λ i. Tree.interval nowhere (x1.4 i) nowhere)

  reshape_item : {s : Style} (x : Item s) (r ts : List Tok) → classes ts ≡ classes (yield_item x r) →
      (w : Item s) × (q : List Tok) × (ts ≡ yield_item w q) × (classes q ≡ classes r) × (blank_item w ≡ blank_item x)
  reshape_item (Tree.alone v) r ts e =
      let x0 = reshape v r ts e in
      (Tree.alone x0.0, x0.1, cc x0.2, x0.3, λ i. Tree.alone (x0.4 i))
  reshape_item (Tree.open_named n k v) r ts e =
      let x0 = reshape_plain_name n (tok (Tokens.mark Tokens.colon) k ∷ (yield_value v r)) ts e in
      let x1 = pop (Tokens.mark Tokens.colon) (yield_value v r) x0.1 x0.3 in
      let x2 = reshape v r x1.rest x1.alike in
      (Tree.open_named x0.0 x1.at x2.0, x2.1, cc (x0.2, x1.begins, x2.2), x2.3, λ i. Tree.open_named (x0.4 i) nowhere (x2.4 i))
  reshape_item (Tree.named n k v) r ts e =
      let x0 = reshape_name n (tok (Tokens.mark Tokens.colon) k ∷ (yield_value v r)) ts e in
      let x1 = pop (Tokens.mark Tokens.colon) (yield_value v r) x0.1 x0.3 in
      let x2 = reshape v r x1.rest x1.alike in
      (Tree.named x0.0 x1.at x2.0, x2.1, cc (x0.2, x1.begins, x2.2), x2.3, λ i. Tree.named (x0.4 i) nowhere (x2.4 i))
  reshape_item (Tree.joined v j k w) r ts e =
      let x0 = reshape v (tok (Tokens.mark (joiner_mark j)) k ∷ (yield_value w r)) ts e in
      let x1 = pop (Tokens.mark (joiner_mark j)) (yield_value w r) x0.1 x0.3 in
      let x2 = reshape w r x1.rest x1.alike in
      (Tree.joined x0.0 j x1.at x2.0, x2.1, cc (x0.2, x1.begins, x2.2), x2.3, λ i. Tree.joined (x0.4 i) j nowhere (x2.4 i))
  reshape_item (Tree.times v k c) r ts e =
      let x0 = reshape v (tok (Tokens.mark Tokens.colon) k ∷ (yield_count c r)) ts e in
      let x1 = pop (Tokens.mark Tokens.colon) (yield_count c r) x0.1 x0.3 in
      let x2 = reshape_count c r x1.rest x1.alike in
      (Tree.times x0.0 x1.at x2.0, x2.1, cc (x0.2, x1.begins, x2.2), x2.3, λ i. Tree.times (x0.4 i) nowhere (x2.4 i))

  reshape_row : {f s : Style} (x : Row f s) (r ts : List Tok) → classes ts ≡ classes (yield_row x r) →
      (w : Row f s) × (q : List Tok) × (ts ≡ yield_row w q) × (classes q ≡ classes r) × (blank_row w ≡ blank_row x)
  reshape_row (Tree.row_first i c) r ts e =
      let x0 = reshape_item i (tok (Tokens.mark Tokens.comma) c ∷ r) ts e in
      let x1 = pop (Tokens.mark Tokens.comma) r x0.1 x0.3 in
      (Tree.row_first x0.0 x1.at, x1.rest, cc (x0.2, x1.begins), x1.alike, λ i. Tree.row_first (x0.4 i) nowhere)
  reshape_row (Tree.row_led b i c) r ts e =
      let x0 = pop (Tokens.mark Tokens.comma) (yield_item i (tok (Tokens.mark Tokens.comma) c ∷ r)) ts e in
      let x1 = reshape_item i (tok (Tokens.mark Tokens.comma) c ∷ r) x0.rest x0.alike in
      let x2 = pop (Tokens.mark Tokens.comma) r x1.1 x1.3 in
      (Tree.row_led x0.at x1.0 x2.at, x2.rest, cc (x0.begins, x1.2, x2.begins), x2.alike, λ i. Tree.row_led nowhere (x1.4 i) nowhere)
  reshape_row (Tree.row_next o i c) r ts e =
      let x0 = reshape_row o (yield_item i (tok (Tokens.mark Tokens.comma) c ∷ r)) ts e in
      let x1 = reshape_item i (tok (Tokens.mark Tokens.comma) c ∷ r) x0.1 x0.3 in
      let x2 = pop (Tokens.mark Tokens.comma) r x1.1 x1.3 in
      (Tree.row_next x0.0 x1.0 x2.at, x2.rest, cc (x0.2, x1.2, x2.begins), x2.alike, λ i. Tree.row_next (x0.4 i) (x1.4 i) nowhere)

  reshape_listing : {s : Style} (x : Listing s) (r ts : List Tok) → classes ts ≡ classes (yield_listing x r) →
      (w : Listing s) × (q : List Tok) × (ts ≡ yield_listing w q) × (classes q ≡ classes r) × (blank_listing w ≡ blank_listing x)
  reshape_listing Tree.no_item r ts e = (Tree.no_item, ts, refl, e, refl)
  reshape_listing (Tree.one_comma c) r ts e =
      let x0 = pop (Tokens.mark Tokens.comma) r ts e in
      (Tree.one_comma x0.at, x0.rest, cc x0.begins, x0.alike, refl)
  reshape_listing (Tree.two_commas c d) r ts e =
      let x0 = pop (Tokens.mark Tokens.comma) (tok (Tokens.mark Tokens.comma) d ∷ r) ts e in
      let x1 = pop (Tokens.mark Tokens.comma) r x0.rest x0.alike in
      (Tree.two_commas x0.at x1.at, x1.rest, cc (x0.begins, x1.begins), x1.alike, refl)
  reshape_listing (Tree.one_item i) r ts e =
      let x0 = reshape_item i r ts e in
      (Tree.one_item x0.0, x0.1, cc x0.2, x0.3, λ i. Tree.one_item (x0.4 i))
  reshape_listing (Tree.led_item c i) r ts e =
      let x0 = pop (Tokens.mark Tokens.comma) (yield_item i r) ts e in
      let x1 = reshape_item i r x0.rest x0.alike in
      (Tree.led_item x0.at x1.0, x1.1, cc (x0.begins, x1.2), x1.3, λ i. Tree.led_item nowhere (x1.4 i))
  reshape_listing (Tree.trailing o) r ts e =
      let x0 = reshape_row o r ts e in
      (Tree.trailing x0.0, x0.1, cc x0.2, x0.3, λ i. Tree.trailing (x0.4 i))
  reshape_listing (Tree.last_item o i) r ts e =
      let x0 = reshape_row o (yield_item i r) ts e in
      let x1 = reshape_item i r x0.1 x0.3 in
      (Tree.last_item x0.0 x1.0, x1.1, cc (x0.2, x1.2), x1.3, λ i. Tree.last_item (x0.4 i) (x1.4 i))

  reshape_attributes : (x : Attributes) (r ts : List Tok) → classes ts ≡ classes (yield_attributes x r) →
      (w : Attributes) × (q : List Tok) × (ts ≡ yield_attributes w q) × (classes q ≡ classes r) × (blank_attributes w ≡ blank_attributes x)
  reshape_attributes Tree.no_attribute r ts e = (Tree.no_attribute, ts, refl, e, refl)
  reshape_attributes (Tree.led_attribute c i) r ts e =
      let x0 = pop (Tokens.mark Tokens.comma) (yield_item i r) ts e in
      let x1 = reshape_item i r x0.rest x0.alike in
      (Tree.led_attribute x0.at x1.0, x1.1, cc (x0.begins, x1.2), x1.3, λ i. Tree.led_attribute nowhere (x1.4 i))
  reshape_attributes (Tree.trailing_comma o) r ts e =
      let x0 = reshape_row o r ts e in
      (Tree.trailing_comma x0.0, x0.1, cc x0.2, x0.3, λ i. Tree.trailing_comma (x0.4 i))
  reshape_attributes (Tree.last_attribute o i) r ts e =
      let x0 = reshape_row o (yield_item i r) ts e in
      let x1 = reshape_item i r x0.1 x0.3 in
      (Tree.last_attribute x0.0 x1.0, x1.1, cc (x0.2, x1.2), x1.3, λ i. Tree.last_attribute (x0.4 i) (x1.4 i))

  reshape_bounds : (x : Bounds) (r ts : List Tok) → classes ts ≡ classes (yield_bounds x r) →
      (w : Bounds) × (q : List Tok) × (ts ≡ yield_bounds w q) × (classes q ≡ classes r) × (blank_bounds w ≡ blank_bounds x)
  reshape_bounds Tree.empty r ts e = (Tree.empty, ts, refl, e, refl)
  reshape_bounds (Tree.single v) r ts e =
      let x0 = reshape v r ts e in
      (Tree.single x0.0, x0.1, cc x0.2, x0.3, λ i. Tree.single (x0.4 i))
  reshape_bounds (Tree.between v b k w) r ts e =
      let x0 = reshape v (tok (Tokens.mark (between_mark b)) k ∷ (yield_value w r)) ts e in
      let x1 = pop (Tokens.mark (between_mark b)) (yield_value w r) x0.1 x0.3 in
      let x2 = reshape w r x1.rest x1.alike in
      (Tree.between x0.0 b x1.at x2.0, x2.1, cc (x0.2, x1.begins, x2.2), x2.3, λ i. Tree.between (x0.4 i) b nowhere (x2.4 i))
  reshape_bounds (Tree.from v a k) r ts e =
      let x0 = reshape v (tok (Tokens.mark (Tokens.star (side_bound a) Open)) k ∷ r) ts e in
      let x1 = pop (Tokens.mark (Tokens.star (side_bound a) Open)) r x0.1 x0.3 in
      (Tree.from x0.0 a x1.at, x1.rest, cc (x0.2, x1.begins), x1.alike, λ i. Tree.from (x0.4 i) a nowhere)
  reshape_bounds (Tree.up_to a k v) r ts e =
      let x0 = pop (Tokens.mark (Tokens.star Open (side_bound a))) (yield_value v r) ts e in
      let x1 = reshape v r x0.rest x0.alike in
      (Tree.up_to a x0.at x1.0, x1.1, cc (x0.begins, x1.2), x1.3, λ i. Tree.up_to a nowhere (x1.4 i))
  reshape_bounds (Tree.all k) r ts e =
      let x0 = pop (Tokens.mark (Tokens.star Open Open)) r ts e in
      (Tree.all x0.at, x0.rest, cc x0.begins, x0.alike, refl)

-- a whole row
pub reshape_all : (x : Value) (ts : List Tok) → classes ts ≡ classes (yield_value x []) → (w : Value) × (ts ≡ yield_value w []) × (blank w ≡ blank x)
reshape_all x ts e = let o = reshape x [] ts e in (o.0, o.2 ∙ ap (yield_value o.0) (no_more o.1 o.3), o.4)
  where
    no_more : (q : List Tok) → classes q ≡ [] → q ≡ []
    no_more [] e = refl
    no_more (t ∷ q) e = absurd (cons≢nil e)
