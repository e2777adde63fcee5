-- Completeness: the machine reads the tokens of every tree of the level, whatever stands before and behind them. Assumes nothing.
use mathlib.Core.Path.{◌≡◌, refl, ap, ◌∙◌}
use mathlib.Core.Bool.{true, ◌&&◌}
use mathlib.Core.List.{List, [], ◌∷◌}
use mathlib.Core.Option.{Option, some}
use Rattle.rules.proofs.Bools.{and_left, and_right}
use Rattle.grammar.specs.Tokens
use Rattle.grammar.specs.Tokens.{Span, Tok, tok}
use Rattle.grammar.specs.Tree
use Rattle.grammar.specs.Tree.{Names, one_name, more_names, PlainName, text_name, nesting_name, Name, plain_name, bare_name, Joiner, Measure, Count, number, truth, Style, opening, attribute, member, copy, Value, Plain, Item, Row, Listing, Attributes, Bounds}
use Rattle.grammar.specs.Yield.{sign, yield_names, yield_plain_name, yield_name, yield_count, yield_value, yield_plain, yield_item, yield_row, yield_listing, yield_attributes, yield_bounds}
use Rattle.grammar.specs.Level.{Level, intervals, has_collection, has_arrow_of, has_joiner, keeps, keeps_plain, keeps_item, keeps_row, keeps_listing, keeps_attributes, keeps_bounds}
use Rattle.grammar.proofs.Frames.{Lead, lead_comma, lead_row, Front, start, led, row, Curly, lot_curly, counted_curly, opened, pair_colon, pair_arrow, in_tuple, attribute_name, square_opened, low_and, up_to, Frame, in_round, in_square, Stack, Config, want, have, want_count, have_item, shut}
use Rattle.grammar.proofs.Machine.{advance, run, runs}
use Rattle.grammar.proofs.Places.{name_value, Place, first_place, next_place, lot_place, counted_place, frame_at, item_read, Holder, tuple_holder, curly_holder, place_in, first_in, led_in, row_in, after_first, after_led, after_next, when_true, item_comma, attribute_close, item_close, no_item_close, led_comma, second_comma, arrow_step, join_step, between_step, from_step, up_to_step, head_step, name_step}

module _ (l : Level) where
  -- one step, and the rest of the run
  pub onward : {m n : Option Config} (r : List Tok) → m ≡ n → run l m r ≡ run l n r
  onward r e = ap (λ (x : Option Config). run l x r) e

  run_names : (n : Names) (K : Stack) (r : List Tok) → run l (some (want K)) (yield_names n r) ≡ run l (some (have (Tree.plain (Tree.nesting n)) K)) r
  run_names (one_name s w t) K r = refl
  run_names (more_names n s w t) K r = run_names n K _

  run_plain_name : (n : PlainName) (K : Stack) (r : List Tok) → run l (some (want K)) (yield_plain_name n r) ≡ run l (some (have (Tree.plain (name_value n)) K)) r
  run_plain_name (text_name w s) K r = refl
  run_plain_name (nesting_name n) K r = run_names n K r

  -- a name and its `:`, in a Tuple behind a comma
  pub run_name : (n : Name) (o : Span) (f : Lead) (k : Span) (K : Stack) (r : List Tok) →
      run l (some (want (in_round (in_tuple o f) ∷ K))) (yield_name n (sign Tokens.colon k r)) ≡ run l (some (want (in_round (attribute_name o f n k) ∷ K))) r
  run_name (plain_name n) o f k K r = run_plain_name n _ _ ∙ onward r (name_step l n o f k K)
  run_name (bare_name h s) o f k K r = refl

  run_count : {u : Measure} (n : Count u) (c : Curly (copy u)) (f : Front (copy u)) (v : Value) (k : Span) (K : Stack) (r : List Tok) →
      run l (some (want_count c f v k K)) (yield_count n r) ≡ run l (some (have_item c f (Tree.times v k n) K)) r
  run_count (number s) c f v k K r = refl
  run_count (truth b s) c f v k K r = refl

  -- the value is read, whatever the stack and the rest
  abbrev Reads : Value → Type 0
  Reads v = (K : Stack) (r : List Tok) → run l (some (want K)) (yield_value v r) ≡ run l (some (have v K)) r

  abbrev ReadsItem : {s : Style} → Item s → Place s → Type 0
  ReadsItem i p = (K : Stack) (r : List Tok) → run l (some (want (frame_at p ∷ K))) (yield_item i r) ≡ run l (some (item_read i p K)) r

  -- ---- items whose values are read

  reads_open_named : (p : Place opening) (n : PlainName) (k : Span) (v : Value) → Reads v → ReadsItem (Tree.open_named n k v) p
  reads_open_named (first_place o) n k v g K r = run_plain_name n _ _ ∙ g _ r

  reads_named : (p : Place attribute) (n : Name) (k : Span) (v : Value) → Reads v → ReadsItem (Tree.named n k v) p
  reads_named (next_place o f) n k v g K r = run_name n o f k K _ ∙ g _ r

  reads_joined : (p : Place member) (v : Value) (j : Joiner) (k : Span) (w : Value) → has_joiner l j ≡ true → Reads v → Reads w → ReadsItem (Tree.joined v j k w) p
  reads_joined (lot_place o f) v j k w e g h K r = g _ _ ∙ onward (yield_value w r) (join_step l j e o f v k K) ∙ h _ r

  reads_times : {u : Measure} (p : Place (copy u)) (v : Value) (k : Span) (n : Count u) → Reads v → ReadsItem (Tree.times v k n) p
  reads_times (counted_place o h s j b f) v k n g K r = g _ _ ∙ run_count n (counted_curly o h s j b) f v k K r

  mutual
    pub run_value : (v : Value) → keeps l v ≡ true → (K : Stack) (r : List Tok) → run l (some (want K)) (yield_value v r) ≡ run l (some (have v K)) r
    run_value (Tree.plain p) e K r = run_plain p e K r
    run_value (Tree.bare h s) e K r = refl

    pub run_plain : (p : Plain) → keeps_plain l p ≡ true → (K : Stack) (r : List Tok) → run l (some (want K)) (yield_plain p r) ≡ run l (some (have (Tree.plain p) K)) r
    run_plain (Tree.literal a s) e K r = refl
    run_plain (Tree.text w s) e K r = refl
    run_plain (Tree.nesting n) e K r = run_names n K r
    run_plain (Tree.group o v c) e K r = run_value v e (in_round (opened o) ∷ K) _
    run_plain (Tree.pair o p k v c) e K r =
        run_plain p (and_left (keeps_plain l p) _ e) (in_round (opened o) ∷ K) _ ∙ run_value v (and_right (keeps_plain l p) _ e) (in_round (pair_colon o p k) ∷ K) _
    run_plain (Tree.arrowed o v a k w c) e K r =
        let d : (keeps l v && has_arrow_of l a) ≡ true = and_left (keeps l v && has_arrow_of l a) _ e in
        run_value v (and_left (keeps l v) _ d) (in_round (opened o) ∷ K) _
        ∙ onward (yield_value w (sign Tokens.round_close c r)) (arrow_step l a (and_right (keeps l v) _ d) o v k K)
        ∙ run_value w (and_right (keeps l v && has_arrow_of l a) _ e) (in_round (pair_arrow o v a k) ∷ K) _
    run_plain (Tree.tuple o i c) e K r = run_attributes i e o K c r
    run_plain (Tree.lot o i c) e K r = run_listing i e (lot_curly o) K c r
    run_plain (Tree.counted o h s k b i d c) e K r =
        onward (yield_listing i (sign Tokens.curly_close d (sign Tokens.round_close c r))) (ap (λ (x : Option Config). advance l x (tok Tokens.curly b)) (head_step l h (and_left (has_collection l h) _ e) o s k K))
        ∙ run_listing i (and_right (has_collection l h) _ e) (counted_curly o h s k b) K d _
    run_plain (Tree.interval o b c) e K r =
        onward (yield_bounds b (sign Tokens.square_close c r)) (when_true (l intervals) _ (and_left (l intervals) _ e)) ∙ run_bounds b (and_right (l intervals) _ e) o K c r

    pub run_item : {s : Style} (i : Item s) → keeps_item l i ≡ true → (p : Place s) (K : Stack) (r : List Tok) →
        run l (some (want (frame_at p ∷ K))) (yield_item i r) ≡ run l (some (item_read i p K)) r
    run_item (Tree.alone v) e p K r = run_value v e (frame_at p ∷ K) r
    run_item (Tree.open_named n k v) e p K r = reads_open_named p n k v (λ L t. run_value v e L t) K r
    run_item (Tree.named n k v) e p K r = reads_named p n k v (λ L t. run_value v e L t) K r
    run_item (Tree.joined v j k w) e p K r =
        let d : (keeps l v && has_joiner l j) ≡ true = and_left (keeps l v && has_joiner l j) _ e in
        reads_joined p v j k w (and_right (keeps l v) _ d) (λ L t. run_value v (and_left (keeps l v) _ d) L t) (λ L t. run_value w (and_right (keeps l v && has_joiner l j) _ e) L t) K r
    run_item (Tree.times v k n) e p K r = reads_times p v k n (λ L t. run_value v e L t) K r

    pub run_row : {f s : Style} (r : Row f s) → keeps_row l r ≡ true → (h : Holder f s) (K : Stack) (t : List Tok) →
        run l (some (want (frame_at (first_in h) ∷ K))) (yield_row r t) ≡ run l (some (want (frame_at (row_in h r) ∷ K))) t
    run_row (Tree.row_first i c) e h K t =
        run_item i e (first_in h) K _ ∙ onward t (item_comma l i (first_in h) K c ∙ ap (λ (f : Frame). some (want (f ∷ K))) (after_first h i c))
    run_row (Tree.row_led b i c) e h K t =
        onward (yield_item i (sign Tokens.comma c t)) (led_comma l h b K) ∙ run_item i e (led_in h b) K _ ∙ onward t (item_comma l i (led_in h b) K c ∙ ap (λ (f : Frame). some (want (f ∷ K))) (after_led h b i c))
    run_row (Tree.row_next r i c) e h K t =
        run_row r (and_left (keeps_row l r) _ e) h K _
        ∙ run_item i (and_right (keeps_row l r) _ e) (row_in h r) K _
        ∙ onward t (item_comma l i (row_in h r) K c ∙ ap (λ (f : Frame). some (want (f ∷ K))) (after_next h r i c))

    run_listing : {s : Style} (i : Listing s) → keeps_listing l i ≡ true → (c : Curly s) (K : Stack) (d : Span) (r : List Tok) →
        run l (some (want (frame_at (place_in c start) ∷ K))) (yield_listing i (sign Tokens.curly_close d r)) ≡ run l (some (shut c i d K)) r
    run_listing Tree.no_item e c K d r = onward r (no_item_close l c start K d)
    run_listing (Tree.one_comma a) e c K d r = onward (sign Tokens.curly_close d r) (led_comma l (curly_holder c) a K) ∙ onward r (no_item_close l c (led a) K d)
    run_listing (Tree.two_commas a b) e c K d r = onward (sign Tokens.comma b (sign Tokens.curly_close d r)) (led_comma l (curly_holder c) a K) ∙ onward (sign Tokens.curly_close d r) (second_comma l c a b K)
    run_listing (Tree.one_item i) e c K d r = run_item i e (place_in c start) K _ ∙ onward r (item_close l c start i K d)
    run_listing (Tree.led_item a i) e c K d r =
        onward (yield_item i (sign Tokens.curly_close d r)) (led_comma l (curly_holder c) a K) ∙ run_item i e (place_in c (led a)) K _ ∙ onward r (item_close l c (led a) i K d)
    run_listing (Tree.trailing o) e c K d r = run_row o e (curly_holder c) K _ ∙ onward r (no_item_close l c (row o) K d)
    run_listing (Tree.last_item o i) e c K d r =
        run_row o (and_left (keeps_row l o) _ e) (curly_holder c) K _
        ∙ run_item i (and_right (keeps_row l o) _ e) (place_in c (row o)) K _
        ∙ onward r (item_close l c (row o) i K d)

    run_attributes : (i : Attributes) → keeps_attributes l i ≡ true → (o : Span) (K : Stack) (c : Span) (r : List Tok) →
        run l (some (want (in_round (opened o) ∷ K))) (yield_attributes i (sign Tokens.round_close c r)) ≡ run l (some (have (Tree.plain (Tree.tuple o i c)) K)) r
    run_attributes Tree.no_attribute e o K c r = refl
    run_attributes (Tree.led_attribute b i) e o K c r = run_item i e (next_place o (lead_comma b)) K _ ∙ onward r (attribute_close l i o (lead_comma b) K c)
    run_attributes (Tree.trailing_comma t) e o K c r = run_row t e (tuple_holder o) K _
    run_attributes (Tree.last_attribute t i) e o K c r =
        run_row t (and_left (keeps_row l t) _ e) (tuple_holder o) K _
        ∙ run_item i (and_right (keeps_row l t) _ e) (next_place o (lead_row t)) K _
        ∙ onward r (attribute_close l i o (lead_row t) K c)

    run_bounds : (b : Bounds) → keeps_bounds l b ≡ true → (o : Span) (K : Stack) (c : Span) (r : List Tok) →
        run l (some (want (in_square (square_opened o) ∷ K))) (yield_bounds b (sign Tokens.square_close c r)) ≡ run l (some (have (Tree.plain (Tree.interval o b c)) K)) r
    run_bounds Tree.empty e o K c r = refl
    run_bounds (Tree.single v) e o K c r = run_value v e (in_square (square_opened o) ∷ K) _
    run_bounds (Tree.between v b k w) e o K c r =
        run_value v (and_left (keeps l v) _ e) (in_square (square_opened o) ∷ K) _
        ∙ onward (yield_value w (sign Tokens.square_close c r)) (between_step l b o v k K)
        ∙ run_value w (and_right (keeps l v) _ e) (in_square (low_and o v b k) ∷ K) _
    run_bounds (Tree.from v a k) e o K c r = run_value v e (in_square (square_opened o) ∷ K) _ ∙ onward (sign Tokens.square_close c r) (from_step l a o v k K)
    run_bounds (Tree.up_to a k v) e o K c r = onward (yield_value v (sign Tokens.square_close c r)) (up_to_step l a o k K) ∙ run_value v e (in_square (up_to o a k) ∷ K) _
    run_bounds (Tree.all k) e o K c r = refl

  -- every text of the level is accepted, with its tree
  pub accepted : (v : Value) → keeps l v ≡ true → runs l (yield_value v []) ≡ some (have v [])
  accepted v e = run_value v e [] []
