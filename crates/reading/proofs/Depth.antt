-- The brackets that stand open behind tokens, told by the machine's configuration there: a value closes what it opens, and a frame holds
-- one bracket open, two inside the braces of a counted collection. Assumes nothing.
use mathlib.Core.Path.{◌≡◌, refl, sym, ap, ◌∙◌}
use mathlib.Core.List.{List, [], ◌∷◌, append-nil}
use mathlib.Core.Option.{Option, none, some}
use Prim.Native.Nat.{ℕ, suc}
use Rattle.grammar.specs.Tokens
use Rattle.grammar.specs.Tokens.{Span, Tok}
use Rattle.grammar.specs.Tree
use Rattle.grammar.specs.Tree.{Names, one_name, more_names, PlainName, text_name, nesting_name, Name, plain_name, bare_name, Arrow, rightward, leftward, Joiner, Measure, Count, number, truth, Between, two_dots, star_sign, Style, Value, Plain, Item, Row, Listing, Attributes, Bounds}
use Rattle.grammar.specs.Yield.{sign, arrow_mark, joiner_mark, between_mark, yield_names, yield_plain_name, yield_name, yield_count, yield_value, yield_plain, yield_item, yield_row, yield_listing, yield_attributes, yield_bounds}
use Rattle.grammar.specs.Level.{Level}
use Rattle.grammar.proofs.Frames.{Lead, lead_comma, lead_row, Front, start, led, row, Curly, lot_curly, counted_curly, RoundFrame, pair_colon, pair_arrow, in_tuple, attribute_name, CurlyFrame, member_joined, SquareFrame, square_opened, low_and, up_to, Frame, in_round, in_square, Stack, Closing, two_commas, headed, bounded, Config, want, have, want_text, want_curly, want_count, have_item, want_close}
use Rattle.grammar.proofs.Machine.{runs}
use Rattle.grammar.proofs.Behind.{behind_names, behind_lead, behind_front, behind_curly, behind_round, behind_square, behind_frame, behind_stack, behind_closing, behind}
use Rattle.grammar.proofs.Accepts.{reached}
use Rattle.reading.specs.Tokens.{open_from, opened}

-- ---- how deep a configuration stands

-- with n brackets open around it; a counted collection's opening is its `(` and its `{`
abbrev pub curly_depth : {s : Style} → Curly s → ℕ → ℕ
curly_depth (lot_curly o) n = suc n
curly_depth (counted_curly o h s k b) n = suc (suc n)

abbrev pub frame_depth : Frame → ℕ → ℕ
frame_depth (in_round f) n = suc n
frame_depth (Frame.in_curly (CurlyFrame.in_curly c f)) n = curly_depth c n
frame_depth (Frame.in_curly (member_joined o f v j k)) n = suc n
frame_depth (in_square f) n = suc n

abbrev pub stack_depth : Stack → ℕ
stack_depth [] = 0
stack_depth (f ∷ K) = frame_depth f (stack_depth K)

-- behind a counted collection's `}` its `(` is still open
abbrev pub closing_depth : Closing → ℕ → ℕ
closing_depth (two_commas c a b) n = curly_depth c n
closing_depth (headed o h s k b i e) n = suc n
closing_depth (bounded o b) n = suc n

abbrev pub depth_of : Config → ℕ
depth_of (want K) = stack_depth K
depth_of (have v K) = stack_depth K
depth_of (want_text n s K) = stack_depth K
depth_of (want_curly o h s k K) = suc (stack_depth K)
depth_of (want_count c f v k K) = curly_depth c (stack_depth K)
depth_of (have_item c f i K) = curly_depth c (stack_depth K)
depth_of (want_close c K) = closing_depth c (stack_depth K)

-- ---- names, counts and the signs between values open and close nothing

arrow_level : (n : ℕ) (a : Arrow) (k : Span) (r : List Tok) → open_from n (sign (arrow_mark a) k r) ≡ open_from n r
arrow_level n rightward k r = refl
arrow_level n leftward k r = refl

joiner_level : (n : ℕ) (j : Joiner) (k : Span) (r : List Tok) → open_from n (sign (joiner_mark j) k r) ≡ open_from n r
joiner_level n Tree.colon k r = refl
joiner_level n (Tree.arrow a) k r = arrow_level n a k r

between_level : (n : ℕ) (b : Between) (k : Span) (r : List Tok) → open_from n (sign (between_mark b) k r) ≡ open_from n r
between_level n two_dots k r = refl
between_level n (star_sign a b) k r = refl

balanced_names : (n : ℕ) (m : Names) (r : List Tok) → open_from n (yield_names m r) ≡ open_from n r
balanced_names n (one_name s w t) r = refl
balanced_names n (more_names m s w t) r = balanced_names n m _

balanced_plain_name : (n : ℕ) (m : PlainName) (r : List Tok) → open_from n (yield_plain_name m r) ≡ open_from n r
balanced_plain_name n (text_name w s) r = refl
balanced_plain_name n (nesting_name m) r = balanced_names n m r

balanced_name : (n : ℕ) (m : Name) (r : List Tok) → open_from n (yield_name m r) ≡ open_from n r
balanced_name n (plain_name m) r = balanced_plain_name n m r
balanced_name n (bare_name h s) r = refl

balanced_count : {u : Measure} (n : ℕ) (c : Count u) (r : List Tok) → open_from n (yield_count c r) ≡ open_from n r
balanced_count n (number s) r = refl
balanced_count n (truth b s) r = refl

-- ---- behind a tree as many brackets stand open as before it

mutual
  pub balanced : (n : ℕ) (v : Value) (r : List Tok) → open_from n (yield_value v r) ≡ open_from n r
  balanced n (Tree.plain p) r = balanced_plain n p r
  balanced n (Tree.bare h s) r = refl

  pub balanced_plain : (n : ℕ) (p : Plain) (r : List Tok) → open_from n (yield_plain p r) ≡ open_from n r
  balanced_plain n (Tree.literal a s) r = refl
  balanced_plain n (Tree.text w s) r = refl
  balanced_plain n (Tree.nesting m) r = balanced_names n m r
  balanced_plain n (Tree.group o v c) r = balanced (suc n) v _
  balanced_plain n (Tree.pair o p k v c) r = balanced_plain (suc n) p _ ∙ balanced (suc n) v _
  balanced_plain n (Tree.arrowed o v a k w c) r =
      balanced (suc n) v _ ∙ arrow_level (suc n) a k (yield_value w (sign Tokens.round_close c r)) ∙ balanced (suc n) w _
  balanced_plain n (Tree.tuple o i c) r = balanced_attributes (suc n) i _
  balanced_plain n (Tree.lot o i c) r = balanced_listing (suc n) i _
  balanced_plain n (Tree.counted o h s k b i e c) r = balanced_listing (suc (suc n)) i _
  balanced_plain n (Tree.interval o b c) r = balanced_bounds (suc n) b _

  pub balanced_item : {s : Style} (n : ℕ) (i : Item s) (r : List Tok) → open_from n (yield_item i r) ≡ open_from n r
  balanced_item n (Tree.alone v) r = balanced n v r
  balanced_item n (Tree.open_named m k v) r = balanced_plain_name n m _ ∙ balanced n v r
  balanced_item n (Tree.named m k v) r = balanced_name n m _ ∙ balanced n v r
  balanced_item n (Tree.joined v j k w) r = balanced n v _ ∙ joiner_level n j k (yield_value w r) ∙ balanced n w r
  balanced_item n (Tree.times v k c) r = balanced n v _ ∙ balanced_count n c r

  pub balanced_row : {f s : Style} (n : ℕ) (o : Row f s) (r : List Tok) → open_from n (yield_row o r) ≡ open_from n r
  balanced_row n (Tree.row_first i c) r = balanced_item n i _
  balanced_row n (Tree.row_led b i c) r = balanced_item n i _
  balanced_row n (Tree.row_next o i c) r = balanced_row n o _ ∙ balanced_item n i _

  pub balanced_listing : {s : Style} (n : ℕ) (i : Listing s) (r : List Tok) → open_from n (yield_listing i r) ≡ open_from n r
  balanced_listing n Tree.no_item r = refl
  balanced_listing n (Tree.one_comma c) r = refl
  balanced_listing n (Tree.two_commas c d) r = refl
  balanced_listing n (Tree.one_item i) r = balanced_item n i r
  balanced_listing n (Tree.led_item c i) r = balanced_item n i r
  balanced_listing n (Tree.trailing o) r = balanced_row n o r
  balanced_listing n (Tree.last_item o i) r = balanced_row n o _ ∙ balanced_item n i r

  pub balanced_attributes : (n : ℕ) (i : Attributes) (r : List Tok) → open_from n (yield_attributes i r) ≡ open_from n r
  balanced_attributes n Tree.no_attribute r = refl
  balanced_attributes n (Tree.led_attribute c i) r = balanced_item n i r
  balanced_attributes n (Tree.trailing_comma o) r = balanced_row n o r
  balanced_attributes n (Tree.last_attribute o i) r = balanced_row n o _ ∙ balanced_item n i r

  pub balanced_bounds : (n : ℕ) (b : Bounds) (r : List Tok) → open_from n (yield_bounds b r) ≡ open_from n r
  balanced_bounds n Tree.empty r = refl
  balanced_bounds n (Tree.single v) r = balanced n v r
  balanced_bounds n (Tree.between v b k w) r = balanced n v _ ∙ between_level n b k (yield_value w r) ∙ balanced n w r
  balanced_bounds n (Tree.from v a k) r = balanced n v _
  balanced_bounds n (Tree.up_to a k v) r = balanced n v r
  balanced_bounds n (Tree.all k) r = refl

-- ---- behind the parts of a configuration

level_names : (n : ℕ) (m : Option Names) (r : List Tok) → open_from n (behind_names m r) ≡ open_from n r
level_names n none r = refl
level_names n (some m) r = balanced_names n m r

level_lead : (n : ℕ) (f : Lead) (r : List Tok) → open_from n (behind_lead f r) ≡ open_from n r
level_lead n (lead_comma b) r = refl
level_lead n (lead_row o) r = balanced_row n o r

level_front : {s : Style} (n : ℕ) (f : Front s) (r : List Tok) → open_from n (behind_front f r) ≡ open_from n r
level_front n start r = refl
level_front n (led b) r = refl
level_front n (row o) r = balanced_row n o r

deeper_curly : {s : Style} (n : ℕ) (c : Curly s) (r : List Tok) → open_from n (behind_curly c r) ≡ open_from (curly_depth c n) r
deeper_curly n (lot_curly o) r = refl
deeper_curly n (counted_curly o h s k b) r = refl

deeper_round : (n : ℕ) (f : RoundFrame) (r : List Tok) → open_from n (behind_round f r) ≡ open_from (suc n) r
deeper_round n (RoundFrame.opened o) r = refl
deeper_round n (pair_colon o p k) r = balanced_plain (suc n) p _
deeper_round n (pair_arrow o v a k) r = balanced (suc n) v _ ∙ arrow_level (suc n) a k r
deeper_round n (in_tuple o f) r = level_lead (suc n) f r
deeper_round n (attribute_name o f m k) r = level_lead (suc n) f _ ∙ balanced_name (suc n) m _

deeper_square : (n : ℕ) (f : SquareFrame) (r : List Tok) → open_from n (behind_square f r) ≡ open_from (suc n) r
deeper_square n (square_opened o) r = refl
deeper_square n (low_and o v b k) r = balanced (suc n) v _ ∙ between_level (suc n) b k r
deeper_square n (up_to o a k) r = refl

deeper_frame : (n : ℕ) (f : Frame) (r : List Tok) → open_from n (behind_frame f r) ≡ open_from (frame_depth f n) r
deeper_frame n (in_round f) r = deeper_round n f r
deeper_frame n (Frame.in_curly (CurlyFrame.in_curly c f)) r = deeper_curly n c _ ∙ level_front (curly_depth c n) f r
deeper_frame n (Frame.in_curly (member_joined o f v j k)) r = level_front (suc n) f _ ∙ balanced (suc n) v _ ∙ joiner_level (suc n) j k r
deeper_frame n (in_square f) r = deeper_square n f r

deeper_closing : (n : ℕ) (c : Closing) (r : List Tok) → open_from n (behind_closing c r) ≡ open_from (closing_depth c n) r
deeper_closing n (two_commas c a b) r = deeper_curly n c _
deeper_closing n (headed o h s k b i e) r = balanced_listing (suc (suc n)) i _
deeper_closing n (bounded o b) r = balanced_bounds (suc n) b r

pub stack_depth_lem : (K : Stack) (r : List Tok) → opened (behind_stack K r) ≡ open_from (stack_depth K) r
stack_depth_lem [] r = refl
stack_depth_lem (f ∷ K) r = stack_depth_lem K _ ∙ deeper_frame (stack_depth K) f r

-- ---- behind a configuration, and behind the tokens that lead to it

pub behind_depth : (c : Config) (r : List Tok) → opened (behind c r) ≡ open_from (depth_of c) r
behind_depth (want K) r = stack_depth_lem K r
behind_depth (have v K) r = stack_depth_lem K _ ∙ balanced (stack_depth K) v r
behind_depth (want_text n s K) r = stack_depth_lem K _ ∙ level_names (stack_depth K) n _
behind_depth (want_curly o h s k K) r = stack_depth_lem K _
behind_depth (want_count c f v k K) r =
    stack_depth_lem K _ ∙ deeper_curly (stack_depth K) c _ ∙ level_front (curly_depth c (stack_depth K)) f _ ∙ balanced (curly_depth c (stack_depth K)) v _
behind_depth (have_item c f i K) r =
    stack_depth_lem K _ ∙ deeper_curly (stack_depth K) c _ ∙ level_front (curly_depth c (stack_depth K)) f _ ∙ balanced_item (curly_depth c (stack_depth K)) i r
behind_depth (want_close c K) r = stack_depth_lem K _ ∙ deeper_closing (stack_depth K) c r

module _ (l : Level) where
  pub depth_is : (ts : List Tok) {c : Config} → runs l ts ≡ some c → opened ts ≡ depth_of c
  depth_is ts {c} e = ap opened (sym (append-nil ts)) ∙ sym (ap opened ((reached l ts c e).reads [])) ∙ behind_depth c []
