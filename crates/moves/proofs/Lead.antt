-- The moves where a value is wanted. Assumes nothing.
use mathlib.Core.Path.{refl, sym, ◌∙◌}
use mathlib.Core.List.{◌∷◌, append-nil}
use Prim.Native.Nat.{◌+◌}
use Rattle.lexicon.specs.declared.Bound.{Bound}
use Rattle.lexicon.specs.declared.Bound.TheVariants.{Open, Less, LessEqual}
use Rattle.lexicon.specs.declared.Sign.{Sign}
use Rattle.lexicon.specs.declared.Kind.{Kind}
use Rattle.grammar.specs.Tokens
use Rattle.grammar.specs.Tokens.{Span, tok, Mark, class_sign, class_kind}
use Rattle.grammar.specs.Tree
use Rattle.grammar.specs.Tree.{less, less_equal}
use Rattle.grammar.specs.Level.{Level}
use Rattle.grammar.specs.Nodes as Nodes
use Rattle.grammar.specs.Nodes.{nodes_row, over, branch}
use Rattle.grammar.proofs.Frames.{lead_comma, lead_row, start, led, row, RoundFrame, opened, pair_colon, pair_arrow, in_tuple, attribute_name, CurlyFrame, member_joined, SquareFrame, square_opened, low_and, up_to, Frame, in_round, in_square, Stack, two_commas, bounded, Config, want, no_further}
use Rattle.moves.specs.declared.NodeKind.{NodeKind}
use Rattle.moves.specs.declared.Role.TheVariants as Role
use Rattle.moves.specs.declared.Move.{Move}
use Rattle.moves.proofs.Model as Model
use Rattle.moves.specs.Means.{round_of, curly_of, square_of, frame_of, fronted}
use Rattle.moves.specs.Effects.{Does}
use Rattle.moves.proofs.Members.{none_listed}
use Rattle.moves.proofs.Steps.{begins, wrong_sign, onward, closes, closing, shuts}

module _ (l : Level) where
  abbrev Takes : Config → Mark → Span → Move → Type 0
  Takes c m s v = Does l c (tok (Tokens.mark m) s) v

  does_empty_round : (f : RoundFrame) (s : Span) (K : Stack) → Takes (want (in_round f ∷ K)) Tokens.round_close s (Model.empty_round (round_of f))
  does_empty_round (opened o) s K =
      closes l _ Tokens.round_close s Role.Root (Tree.plain (Tree.tuple o Tree.no_attribute s)) NodeKind.Tuple 0 refl (λ e. refl) refl refl λ p q i. refl
  does_empty_round (pair_colon o p k) s K = wrong_sign l _ Tokens.round_close s refl
  does_empty_round (pair_arrow o v a k) s K = wrong_sign l _ Tokens.round_close s refl
  does_empty_round (in_tuple o (lead_comma b)) s K = wrong_sign l _ Tokens.round_close s refl
  does_empty_round (in_tuple o (lead_row r)) s K =
      closes l _ Tokens.round_close s Role.Root (Tree.plain (Tree.tuple o (Tree.trailing_comma r) s)) NodeKind.Tuple 0 refl (λ e. refl) refl refl
      λ p q i x. branch Nodes.a_tuple (over o s) p q 0 (sym (append-nil (nodes_row r i (i + 1))) x)
  does_empty_round (attribute_name o f n k) s K = wrong_sign l _ Tokens.round_close s refl

  does_empty_curly : (f : CurlyFrame) (s : Span) (K : Stack) → Takes (want (Frame.in_curly f ∷ K)) Tokens.curly_close s (Model.empty_curly (curly_of f))
  does_empty_curly (CurlyFrame.in_curly c f) s K =
      shuts l c _ s Role.Root (no_further f) (λ e. refl) refl refl λ j. none_listed f j ∙ sym (append-nil (fronted f j))
  does_empty_curly (member_joined o f v j k) s K = wrong_sign l _ Tokens.curly_close s refl

  does_empty_square : (f : SquareFrame) (s : Span) (K : Stack) → Takes (want (in_square f ∷ K)) Tokens.square_close s (Model.empty_square (square_of f))
  does_empty_square (square_opened o) s K =
      closes l _ Tokens.square_close s Role.Root (Tree.plain (Tree.interval o Tree.empty s)) NodeKind.Interval 0 refl (λ e. refl) refl refl λ p q i. refl
  does_empty_square (low_and o v b k) s K = wrong_sign l _ Tokens.square_close s refl
  does_empty_square (up_to o a k) s K = wrong_sign l _ Tokens.square_close s refl

  does_lead_round : (f : RoundFrame) (s : Span) (K : Stack) → Takes (want (in_round f ∷ K)) Tokens.comma s (Model.lead_round (round_of f))
  does_lead_round (opened o) s K = onward l _ Tokens.comma s Role.Root (in_round (in_tuple o (lead_comma s))) refl (λ e. refl) refl refl refl λ i. refl
  does_lead_round (pair_colon o p k) s K = wrong_sign l _ Tokens.comma s refl
  does_lead_round (pair_arrow o v a k) s K = wrong_sign l _ Tokens.comma s refl
  does_lead_round (in_tuple o (lead_comma b)) s K = wrong_sign l _ Tokens.comma s refl
  does_lead_round (in_tuple o (lead_row r)) s K = wrong_sign l _ Tokens.comma s refl
  does_lead_round (attribute_name o f n k) s K = wrong_sign l _ Tokens.comma s refl

  does_lead_curly : (f : CurlyFrame) (s : Span) (K : Stack) → Takes (want (Frame.in_curly f ∷ K)) Tokens.comma s (Model.lead_curly (curly_of f))
  does_lead_curly (CurlyFrame.in_curly c start) s K =
      onward l _ Tokens.comma s Role.Root (Frame.in_curly (CurlyFrame.in_curly c (led s))) refl (λ e. refl) refl refl refl λ i. refl
  does_lead_curly (CurlyFrame.in_curly c (led b)) s K = (
    record { sign = Tokens.comma; class_is = refl; flat_is = refl },
    λ e. refl,
    closing l _ _ (two_commas c b s) _ refl refl λ i. refl,
  )
  does_lead_curly (CurlyFrame.in_curly c (row r)) s K = wrong_sign l _ Tokens.comma s refl
  does_lead_curly (member_joined o f v j k) s K = wrong_sign l _ Tokens.comma s refl

  does_star_right : (b : Bound) (o s : Span) (K : Stack) → Takes (want (in_square (square_opened o) ∷ K)) (Tokens.star Open b) s (Model.star_right b)
  does_star_right Open o s K = (
    record { sign = Tokens.star Open Open; class_is = refl; flat_is = refl },
    λ e. refl,
    closing l _ _ (bounded o (Tree.all s)) _ refl refl λ i. refl,
  )
  does_star_right Less o s K = onward l _ (Tokens.star Open Less) s Role.Root (in_square (up_to o less s)) refl (λ e. refl) refl refl refl λ i. refl
  does_star_right LessEqual o s K = onward l _ (Tokens.star Open LessEqual) s Role.Root (in_square (up_to o less_equal s)) refl (λ e. refl) refl refl refl λ i. refl

  does_lead_star : (f : SquareFrame) (a b : Bound) (s : Span) (K : Stack) → Takes (want (in_square f ∷ K)) (Tokens.star a b) s (Model.lead_star (square_of f) a b)
  does_lead_star (square_opened o) Open b s K = does_star_right b o s K
  does_lead_star (square_opened o) Less b s K = wrong_sign l _ (Tokens.star Less b) s refl
  does_lead_star (square_opened o) LessEqual b s K = wrong_sign l _ (Tokens.star LessEqual b) s refl
  does_lead_star (low_and o v d j) a b s K = wrong_sign l _ (Tokens.star a b) s refl
  does_lead_star (up_to o d j) a b s K = wrong_sign l _ (Tokens.star a b) s refl

  does_lead_sign : (f : Frame) (y : Sign) (s : Span) (K : Stack) → Does l (want (f ∷ K)) (tok (class_sign y) s) (Model.lead_sign (frame_of f) y)
  does_lead_sign (in_round f) Sign.RoundOpen s K = begins l (in_round f) K Tokens.round s (λ e. e)
  does_lead_sign (in_round f) Sign.RoundClose s K = does_empty_round f s K
  does_lead_sign (in_round f) Sign.CurlyOpen s K = begins l (in_round f) K Tokens.curly s (λ e. e)
  does_lead_sign (in_round f) Sign.CurlyClose s K = wrong_sign l _ Tokens.curly_close s refl
  does_lead_sign (in_round f) Sign.SquareOpen s K = begins l (in_round f) K Tokens.square s (λ e. e)
  does_lead_sign (in_round f) Sign.SquareClose s K = wrong_sign l _ Tokens.square_close s refl
  does_lead_sign (in_round f) Sign.Comma s K = does_lead_round f s K
  does_lead_sign (in_round f) Sign.ArrowRight s K = wrong_sign l _ Tokens.right_arrow s refl
  does_lead_sign (in_round f) Sign.ArrowLeft s K = wrong_sign l _ Tokens.left_arrow s refl
  does_lead_sign (in_round f) Sign.Dots s K = wrong_sign l _ Tokens.dots s refl
  does_lead_sign (in_round f) (Sign.Star a b) s K = wrong_sign l _ (Tokens.star a b) s refl
  does_lead_sign (Frame.in_curly f) Sign.RoundOpen s K = begins l (Frame.in_curly f) K Tokens.round s (λ e. e)
  does_lead_sign (Frame.in_curly f) Sign.RoundClose s K = wrong_sign l _ Tokens.round_close s refl
  does_lead_sign (Frame.in_curly f) Sign.CurlyOpen s K = begins l (Frame.in_curly f) K Tokens.curly s (λ e. e)
  does_lead_sign (Frame.in_curly f) Sign.CurlyClose s K = does_empty_curly f s K
  does_lead_sign (Frame.in_curly f) Sign.SquareOpen s K = begins l (Frame.in_curly f) K Tokens.square s (λ e. e)
  does_lead_sign (Frame.in_curly f) Sign.SquareClose s K = wrong_sign l _ Tokens.square_close s refl
  does_lead_sign (Frame.in_curly f) Sign.Comma s K = does_lead_curly f s K
  does_lead_sign (Frame.in_curly f) Sign.ArrowRight s K = wrong_sign l _ Tokens.right_arrow s refl
  does_lead_sign (Frame.in_curly f) Sign.ArrowLeft s K = wrong_sign l _ Tokens.left_arrow s refl
  does_lead_sign (Frame.in_curly f) Sign.Dots s K = wrong_sign l _ Tokens.dots s refl
  does_lead_sign (Frame.in_curly f) (Sign.Star a b) s K = wrong_sign l _ (Tokens.star a b) s refl
  does_lead_sign (in_square f) Sign.RoundOpen s K = begins l (in_square f) K Tokens.round s (λ e. e)
  does_lead_sign (in_square f) Sign.RoundClose s K = wrong_sign l _ Tokens.round_close s refl
  does_lead_sign (in_square f) Sign.CurlyOpen s K = begins l (in_square f) K Tokens.curly s (λ e. e)
  does_lead_sign (in_square f) Sign.CurlyClose s K = wrong_sign l _ Tokens.curly_close s refl
  does_lead_sign (in_square f) Sign.SquareOpen s K = begins l (in_square f) K Tokens.square s (λ e. e)
  does_lead_sign (in_square f) Sign.SquareClose s K = does_empty_square f s K
  does_lead_sign (in_square f) Sign.Comma s K = wrong_sign l _ Tokens.comma s refl
  does_lead_sign (in_square f) Sign.ArrowRight s K = wrong_sign l _ Tokens.right_arrow s refl
  does_lead_sign (in_square f) Sign.ArrowLeft s K = wrong_sign l _ Tokens.left_arrow s refl
  does_lead_sign (in_square f) Sign.Dots s K = wrong_sign l _ Tokens.dots s refl
  does_lead_sign (in_square f) (Sign.Star a b) s K = does_lead_star f a b s K

  pub does_lead : (f : Frame) (k : Kind) (s : Span) (K : Stack) → Does l (want (f ∷ K)) (tok (class_kind k) s) (Model.lead (frame_of f) k)
  does_lead f Kind.Ignorance s K = begins l f K _ s (λ e. e)
  does_lead f (Kind.Boolean b) s K = begins l f K _ s (λ e. e)
  does_lead f (Kind.Integer signed) s K = begins l f K _ s (λ e. e)
  does_lead f Kind.Fraction s K = begins l f K _ s (λ e. e)
  does_lead f Kind.Bits s K = begins l f K _ s (λ e. e)
  does_lead f Kind.Blob s K = begins l f K _ s (λ e. e)
  does_lead f (Kind.Text form) s K = begins l f K _ s (λ e. e)
  does_lead f Kind.Later s K = begins l f K _ s (λ e. e)
  does_lead f (Kind.Symbol y) s K = does_lead_sign f y s K
  does_lead f Kind.Colon s K = wrong_sign l _ Tokens.colon s refl
  does_lead f Kind.TwoColons s K = begins l f K _ s (λ e. e)
