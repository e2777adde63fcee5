-- A derivation without the backward arrow is not turned. Assumes nothing.
use mathlib.Core.Path.{◌≡◌, refl, ap}
use mathlib.Core.Bool.{true, false, ◌&&◌, false≢true}
use Rattle.rules.proofs.Bools.{and_left, and_right}
use Rattle.grammar.specs.Tree
use Rattle.grammar.specs.Tree.{rightward, leftward, Value, Plain, Style, Item, Row, Listing, Attributes, Bounds}
use Rattle.grammar.specs.Level.{Level, arrowless, intervals, has_collection, keeps, keeps_plain, keeps_item, keeps_row, keeps_listing, keeps_attributes, keeps_bounds}
use Rattle.form.specs.Turn.{turn, turn_plain, turn_item, turn_row, turn_listing, turn_attributes, turn_bounds}

module _ (l : Level) where
  abbrev m : Level
  m = arrowless l

  mutual
    pub turned : (v : Value) → keeps m v ≡ true → turn v ≡ v
    turned (Tree.plain p) e = ap Tree.plain (turned_plain p e)
    turned (Tree.bare h s) e = refl

    turned_plain : (p : Plain) → keeps_plain m p ≡ true → turn_plain p ≡ p
    turned_plain (Tree.literal a s) e = refl
    turned_plain (Tree.text w s) e = refl
    turned_plain (Tree.nesting n) e = refl
    turned_plain (Tree.group o v c) e = ap (λ (x : Value). Tree.group o x c) (turned v e)
    turned_plain (Tree.pair o p k v c) e =
        let a = turned_plain p (and_left (keeps_plain m p) (keeps m v) e) in
        let b = turned v (and_right (keeps_plain m p) (keeps m v) e) in
        λ i. Tree.pair o (a i) k (b i) c
    turned_plain (Tree.arrowed o v rightward k w c) e =
        let a = turned v (and_left (keeps m v) true (and_left (keeps m v && true) (keeps m w) e)) in
        let b = turned w (and_right (keeps m v && true) (keeps m w) e) in
        λ i. Tree.arrowed o (a i) rightward k (b i) c
    turned_plain (Tree.arrowed o v leftward k w c) e = absurd (false≢true (and_right (keeps m v) false (and_left (keeps m v && false) (keeps m w) e)))
    turned_plain (Tree.tuple o i c) e = ap (λ (x : Attributes). Tree.tuple o x c) (turned_attributes i e)
    turned_plain (Tree.lot o i c) e = ap (λ (x : Listing Tree.member). Tree.lot o x c) (turned_listing i e)
    turned_plain (Tree.counted o h s k b i d c) e = ap (λ x. Tree.counted o h s k b x d c) (turned_listing i (and_right (has_collection m h) (keeps_listing m i) e))
    turned_plain (Tree.interval o b c) e = ap (λ (x : Bounds). Tree.interval o x c) (turned_bounds b (and_right (m intervals) (keeps_bounds m b) e))

    turned_item : {s : Style} (i : Item s) → keeps_item m i ≡ true → turn_item i ≡ i
    turned_item (Tree.alone v) e = ap Tree.alone (turned v e)
    turned_item (Tree.open_named n k v) e = ap (Tree.open_named n k) (turned v e)
    turned_item (Tree.named n k v) e = ap (Tree.named n k) (turned v e)
    turned_item (Tree.joined v Tree.colon k w) e =
        let a = turned v (and_left (keeps m v) true (and_left (keeps m v && true) (keeps m w) e)) in
        let b = turned w (and_right (keeps m v && true) (keeps m w) e) in
        λ i. Tree.joined (a i) Tree.colon k (b i)
    turned_item (Tree.joined v (Tree.arrow rightward) k w) e =
        let a = turned v (and_left (keeps m v) true (and_left (keeps m v && true) (keeps m w) e)) in
        let b = turned w (and_right (keeps m v && true) (keeps m w) e) in
        λ i. Tree.joined (a i) (Tree.arrow rightward) k (b i)
    turned_item (Tree.joined v (Tree.arrow leftward) k w) e = absurd (false≢true (and_right (keeps m v) false (and_left (keeps m v && false) (keeps m w) e)))
    turned_item (Tree.times v k c) e = ap (λ (x : Value). Tree.times x k c) (turned v e)

    turned_row : {f s : Style} (r : Row f s) → keeps_row m r ≡ true → turn_row r ≡ r
    turned_row (Tree.row_first i c) e = ap (λ x. Tree.row_first x c) (turned_item i e)
    turned_row (Tree.row_led b i c) e = ap (λ x. Tree.row_led b x c) (turned_item i e)
    turned_row (Tree.row_next o i c) e =
        let a = turned_row o (and_left (keeps_row m o) (keeps_item m i) e) in
        let b = turned_item i (and_right (keeps_row m o) (keeps_item m i) e) in
        λ j. Tree.row_next (a j) (b j) c

    turned_listing : {s : Style} (i : Listing s) → keeps_listing m i ≡ true → turn_listing i ≡ i
    turned_listing Tree.no_item e = refl
    turned_listing (Tree.one_comma c) e = refl
    turned_listing (Tree.two_commas c d) e = refl
    turned_listing (Tree.one_item i) e = ap Tree.one_item (turned_item i e)
    turned_listing (Tree.led_item c i) e = ap (Tree.led_item c) (turned_item i e)
    turned_listing (Tree.trailing o) e = ap Tree.trailing (turned_row o e)
    turned_listing (Tree.last_item o i) e =
        let a = turned_row o (and_left (keeps_row m o) (keeps_item m i) e) in
        let b = turned_item i (and_right (keeps_row m o) (keeps_item m i) e) in
        λ j. Tree.last_item (a j) (b j)

    turned_attributes : (i : Attributes) → keeps_attributes m i ≡ true → turn_attributes i ≡ i
    turned_attributes Tree.no_attribute e = refl
    turned_attributes (Tree.led_attribute c i) e = ap (Tree.led_attribute c) (turned_item i e)
    turned_attributes (Tree.trailing_comma o) e = ap Tree.trailing_comma (turned_row o e)
    turned_attributes (Tree.last_attribute o i) e =
        let a = turned_row o (and_left (keeps_row m o) (keeps_item m i) e) in
        let b = turned_item i (and_right (keeps_row m o) (keeps_item m i) e) in
        λ j. Tree.last_attribute (a j) (b j)

    turned_bounds : (b : Bounds) → keeps_bounds m b ≡ true → turn_bounds b ≡ b
    turned_bounds Tree.empty e = refl
    turned_bounds (Tree.single v) e = ap Tree.single (turned v e)
    turned_bounds (Tree.between v b k w) e =
        let a = turned v (and_left (keeps m v) (keeps m w) e) in
        let d = turned w (and_right (keeps m v) (keeps m w) e) in
        λ i. Tree.between (a i) b k (d i)
    turned_bounds (Tree.from v a k) e = ap (λ (x : Value). Tree.from x a k) (turned v e)
    turned_bounds (Tree.up_to a k v) e = ap (Tree.up_to a k) (turned v e)
    turned_bounds (Tree.all k) e = refl
