-- What a configuration stands for: the tokens that were read, in front of those that follow, and whether they are of the level.
-- Assumes nothing.
use mathlib.Core.Bool.{Bool, true, ◌&&◌}
use mathlib.Core.List.{List, [], ◌∷◌}
use mathlib.Core.Option.{Option, none, some}
use Rattle.grammar.specs.Tokens
use Rattle.grammar.specs.Tokens.{Span, Tok, tok, head_word}
use Rattle.grammar.specs.Tree.{Names, Collection, Style}
use Rattle.grammar.specs.Yield.{sign, arrow_mark, joiner_mark, side_bound, between_mark, collection_head, yield_names, yield_name, yield_value, yield_plain, yield_item, yield_row, yield_listing, yield_bounds}
use Rattle.lexicon.specs.declared.Bound.TheVariants.{Open}
use Rattle.grammar.specs.Level.{Level, intervals, has_collection, has_arrow_of, has_joiner, keeps, keeps_plain, keeps_item, keeps_row, keeps_listing, keeps_bounds}
use Rattle.grammar.proofs.Frames.{Lead, lead_comma, lead_row, Front, start, led, row, Curly, lot_curly, counted_curly, RoundFrame, opened, pair_colon, pair_arrow, in_tuple, attribute_name, CurlyFrame, member_joined, SquareFrame, square_opened, low_and, up_to, Frame, in_round, in_square, Stack, Closing, two_commas, headed, bounded, Config, want, have, want_text, want_curly, want_count, have_item, want_close}

-- ---- the tokens

abbrev pub behind_names : Option Names → List Tok → List Tok
behind_names none r = r
behind_names (some n) r = yield_names n r

abbrev pub behind_head : Span → Collection → Span → Span → List Tok → List Tok
behind_head o h s k r = tok Tokens.round o ∷ tok (Tokens.text (head_word (collection_head h))) s ∷ sign Tokens.colon k r

abbrev pub behind_lead : Lead → List Tok → List Tok
behind_lead (lead_comma b) r = sign Tokens.comma b r
behind_lead (lead_row o) r = yield_row o r

abbrev pub behind_front : {s : Style} → Front s → List Tok → List Tok
behind_front start r = r
behind_front (led b) r = sign Tokens.comma b r
behind_front (row o) r = yield_row o r

abbrev pub behind_curly : {s : Style} → Curly s → List Tok → List Tok
behind_curly (lot_curly o) r = tok Tokens.curly o ∷ r
behind_curly (counted_curly o h s k b) r = behind_head o h s k (tok Tokens.curly b ∷ r)

abbrev pub behind_round : RoundFrame → List Tok → List Tok
behind_round (opened o) r = tok Tokens.round o ∷ r
behind_round (pair_colon o p k) r = tok Tokens.round o ∷ yield_plain p (sign Tokens.colon k r)
behind_round (pair_arrow o v a k) r = tok Tokens.round o ∷ yield_value v (sign (arrow_mark a) k r)
behind_round (in_tuple o f) r = tok Tokens.round o ∷ behind_lead f r
behind_round (attribute_name o f n k) r = tok Tokens.round o ∷ behind_lead f (yield_name n (sign Tokens.colon k r))

abbrev pub behind_curly_frame : CurlyFrame → List Tok → List Tok
behind_curly_frame (CurlyFrame.in_curly c f) r = behind_curly c (behind_front f r)
behind_curly_frame (member_joined o f v j k) r = tok Tokens.curly o ∷ behind_front f (yield_value v (sign (joiner_mark j) k r))

abbrev pub behind_square : SquareFrame → List Tok → List Tok
behind_square (square_opened o) r = tok Tokens.square o ∷ r
behind_square (low_and o v b k) r = tok Tokens.square o ∷ yield_value v (sign (between_mark b) k r)
behind_square (up_to o a k) r = tok Tokens.square o ∷ sign (Tokens.star Open (side_bound a)) k r

abbrev pub behind_frame : Frame → List Tok → List Tok
behind_frame (in_round f) r = behind_round f r
behind_frame (Frame.in_curly f) r = behind_curly_frame f r
behind_frame (in_square f) r = behind_square f r

abbrev pub behind_stack : Stack → List Tok → List Tok
behind_stack [] r = r
behind_stack (f ∷ K) r = behind_stack K (behind_frame f r)

abbrev pub behind_closing : Closing → List Tok → List Tok
behind_closing (two_commas c a b) r = behind_curly c (sign Tokens.comma a (sign Tokens.comma b r))
behind_closing (headed o h s k b i e) r = behind_head o h s k (tok Tokens.curly b ∷ yield_listing i (sign Tokens.curly_close e r))
behind_closing (bounded o b) r = tok Tokens.square o ∷ yield_bounds b r

abbrev pub behind : Config → List Tok → List Tok
behind (want K) r = behind_stack K r
behind (have v K) r = behind_stack K (yield_value v r)
behind (want_text n s K) r = behind_stack K (behind_names n (tok Tokens.names s ∷ r))
behind (want_curly o h s k K) r = behind_stack K (behind_head o h s k r)
behind (want_count c f v k K) r = behind_stack K (behind_curly c (behind_front f (yield_value v (sign Tokens.colon k r))))
behind (have_item c f i K) r = behind_stack K (behind_curly c (behind_front f (yield_item i r)))
behind (want_close c K) r = behind_stack K (behind_closing c r)

-- ---- the level: of a frame, given whether what stands in it is of the level

module _ (l : Level) where
  abbrev pub kept_lead : Lead → Bool → Bool
  kept_lead (lead_comma b) x = x
  kept_lead (lead_row o) x = keeps_row l o && x

  abbrev pub kept_front : {s : Style} → Front s → Bool → Bool
  kept_front start x = x
  kept_front (led b) x = x
  kept_front (row o) x = keeps_row l o && x

  abbrev pub kept_curly : {s : Style} → Curly s → Bool → Bool
  kept_curly (lot_curly o) x = x
  kept_curly (counted_curly o h s k b) x = has_collection l h && x

  abbrev pub kept_round : RoundFrame → Bool → Bool
  kept_round (opened o) x = x
  kept_round (pair_colon o p k) x = keeps_plain l p && x
  kept_round (pair_arrow o v a k) x = keeps l v && has_arrow_of l a && x
  kept_round (in_tuple o f) x = kept_lead f x
  kept_round (attribute_name o f n k) x = kept_lead f x

  abbrev pub kept_curly_frame : CurlyFrame → Bool → Bool
  kept_curly_frame (CurlyFrame.in_curly c f) x = kept_curly c (kept_front f x)
  kept_curly_frame (member_joined o f v j k) x = kept_front f (keeps l v && has_joiner l j && x)

  abbrev pub kept_square : SquareFrame → Bool → Bool
  kept_square (square_opened o) x = l intervals && x
  kept_square (low_and o v b k) x = l intervals && (keeps l v && x)
  kept_square (up_to o a k) x = l intervals && x

  abbrev pub kept_frame : Frame → Bool → Bool
  kept_frame (in_round f) x = kept_round f x
  kept_frame (Frame.in_curly f) x = kept_curly_frame f x
  kept_frame (in_square f) x = kept_square f x

  abbrev pub kept_stack : Stack → Bool → Bool
  kept_stack [] x = x
  kept_stack (f ∷ K) x = kept_stack K (kept_frame f x)

  abbrev pub kept_closing : Closing → Bool
  kept_closing (two_commas c a b) = kept_curly c true
  kept_closing (headed o h s k b i e) = has_collection l h && keeps_listing l i
  kept_closing (bounded o b) = l intervals && keeps_bounds l b

  abbrev pub kept : Config → Bool
  kept (want K) = kept_stack K true
  kept (have v K) = kept_stack K (keeps l v)
  kept (want_text n s K) = kept_stack K true
  kept (want_curly o h s k K) = kept_stack K (has_collection l h && true)
  kept (want_count c f v k K) = kept_stack K (kept_curly c (kept_front f (keeps l v)))
  kept (have_item c f i K) = kept_stack K (kept_curly c (kept_front f (keeps_item l i)))
  kept (want_close c K) = kept_stack K (kept_closing c)
