-- The moves behind a value. Assumes nothing.
use mathlib.Core.Path.{◌≡◌, refl}
use mathlib.Core.Bool.{true}
use mathlib.Core.List.{◌∷◌}
use mathlib.Core.Option.{Option, none, some}
use Rattle.lexicon.specs.declared.Sign.{Sign}
use Rattle.lexicon.specs.declared.Kind.{Kind}
use Rattle.grammar.specs.Tokens
use Rattle.grammar.specs.Tokens.{Span, tok, class_sign, class_kind}
use Rattle.grammar.specs.Tree
use Rattle.grammar.specs.Tree.{Names, Value}
use Rattle.grammar.proofs.Frames.{Frame, in_round, in_square, Stack, have, names_of}
use Rattle.grammar.proofs.Machine as Machine
use Rattle.moves.specs.declared.Forms.{Forms}
use Rattle.moves.proofs.Model as Model
use Rattle.moves.specs.Means.{level_of, given, shape_of, frame_of}
use Rattle.moves.specs.Effects.{Does, Asked}
use Rattle.moves.proofs.Steps.{wrong}
use Rattle.moves.proofs.Ends.{does_close_round, does_close_curly, does_close_square, does_comma_round, does_comma_curly}
use Rattle.moves.proofs.Signs.{does_colon_round, does_colon_curly, does_low_sign, does_star_square, does_arrow_round, does_arrow_curly}

-- `::` goes on with a Nesting alone
no_names : (n : Option Names) (s : Span) (K : Stack) → (given n ≡ true → ⊥) → Machine.names_go n s K ≡ none
no_names none s K d = refl
no_names (some n) s K d = absurd (d refl)

module _ (forms : Forms) where
  does_behind_sign : (f : Frame) (v : Value) (y : Sign) (s : Span) (K : Stack) →
      Does (level_of forms) (have v (f ∷ K)) (tok (class_sign y) s) (Model.behind_sign forms (frame_of f) y)
  does_behind_sign (in_round f) v Sign.RoundOpen s K = wrong (level_of forms) _ _ s (λ e. e) refl
  does_behind_sign (in_round f) v Sign.RoundClose s K = does_close_round (level_of forms) f v s K
  does_behind_sign (in_round f) v Sign.CurlyOpen s K = wrong (level_of forms) _ _ s (λ e. e) refl
  does_behind_sign (in_round f) v Sign.CurlyClose s K = wrong (level_of forms) _ _ s (λ e. e) refl
  does_behind_sign (in_round f) v Sign.SquareOpen s K = wrong (level_of forms) _ _ s (λ e. e) refl
  does_behind_sign (in_round f) v Sign.SquareClose s K = wrong (level_of forms) _ _ s (λ e. e) refl
  does_behind_sign (in_round f) v Sign.Comma s K = does_comma_round (level_of forms) f v s K
  does_behind_sign (in_round f) v Sign.ArrowRight s K = does_arrow_round forms Tokens.right_arrow refl Tree.rightward f v s K refl
  does_behind_sign (in_round f) v Sign.ArrowLeft s K = does_arrow_round forms Tokens.left_arrow refl Tree.leftward f v s K refl
  does_behind_sign (in_round f) v Sign.Dots s K = wrong (level_of forms) _ _ s (λ e. e) refl
  does_behind_sign (in_round f) v (Sign.Star a b) s K = wrong (level_of forms) _ _ s (λ e. e) refl
  does_behind_sign (Frame.in_curly f) v Sign.RoundOpen s K = wrong (level_of forms) _ _ s (λ e. e) refl
  does_behind_sign (Frame.in_curly f) v Sign.RoundClose s K = wrong (level_of forms) _ _ s (λ e. e) refl
  does_behind_sign (Frame.in_curly f) v Sign.CurlyOpen s K = wrong (level_of forms) _ _ s (λ e. e) refl
  does_behind_sign (Frame.in_curly f) v Sign.CurlyClose s K = does_close_curly (level_of forms) f v s K
  does_behind_sign (Frame.in_curly f) v Sign.SquareOpen s K = wrong (level_of forms) _ _ s (λ e. e) refl
  does_behind_sign (Frame.in_curly f) v Sign.SquareClose s K = wrong (level_of forms) _ _ s (λ e. e) refl
  does_behind_sign (Frame.in_curly f) v Sign.Comma s K = does_comma_curly (level_of forms) f v s K
  does_behind_sign (Frame.in_curly f) v Sign.ArrowRight s K = does_arrow_curly forms Tokens.right_arrow refl Tree.rightward f v s K refl
  does_behind_sign (Frame.in_curly f) v Sign.ArrowLeft s K = does_arrow_curly forms Tokens.left_arrow refl Tree.leftward f v s K refl
  does_behind_sign (Frame.in_curly f) v Sign.Dots s K = wrong (level_of forms) _ _ s (λ e. e) refl
  does_behind_sign (Frame.in_curly f) v (Sign.Star a b) s K = wrong (level_of forms) _ _ s (λ e. e) refl
  does_behind_sign (in_square f) v Sign.RoundOpen s K = wrong (level_of forms) _ _ s (λ e. e) refl
  does_behind_sign (in_square f) v Sign.RoundClose s K = wrong (level_of forms) _ _ s (λ e. e) refl
  does_behind_sign (in_square f) v Sign.CurlyOpen s K = wrong (level_of forms) _ _ s (λ e. e) refl
  does_behind_sign (in_square f) v Sign.CurlyClose s K = wrong (level_of forms) _ _ s (λ e. e) refl
  does_behind_sign (in_square f) v Sign.SquareOpen s K = wrong (level_of forms) _ _ s (λ e. e) refl
  does_behind_sign (in_square f) v Sign.SquareClose s K = does_close_square (level_of forms) f v s K
  does_behind_sign (in_square f) v Sign.Comma s K = wrong (level_of forms) _ _ s (λ e. e) refl
  does_behind_sign (in_square f) v Sign.ArrowRight s K = wrong (level_of forms) _ _ s (λ e. e) refl
  does_behind_sign (in_square f) v Sign.ArrowLeft s K = wrong (level_of forms) _ _ s (λ e. e) refl
  does_behind_sign (in_square f) v Sign.Dots s K = does_low_sign (level_of forms) Tokens.dots refl f v Tree.two_dots s K refl
  does_behind_sign (in_square f) v (Sign.Star a b) s K = does_star_square (level_of forms) f v a b s K

  does_colon : (f : Frame) (v : Value) (s : Span) (K : Stack) → Asked (have v (f ∷ K)) Kind.Colon →
      Does (level_of forms) (have v (f ∷ K)) (tok (Tokens.mark Tokens.colon) s) (Model.colon (frame_of f) (shape_of v))
  does_colon (in_round f) v s K a = does_colon_round (level_of forms) f v s K (λ e. a.no_head e refl)
  does_colon (Frame.in_curly f) v s K a = does_colon_curly (level_of forms) f v s K
  does_colon (in_square f) v s K a = wrong (level_of forms) _ _ s (λ e. e) refl

  pub does_behind : (f : Frame) (v : Value) (k : Kind) (s : Span) (K : Stack) → Asked (have v (f ∷ K)) k →
      Does (level_of forms) (have v (f ∷ K)) (tok (class_kind k) s) (Model.behind forms (frame_of f) (shape_of v) k)
  does_behind f v Kind.Ignorance s K a = wrong (level_of forms) _ _ s (λ e. e) refl
  does_behind f v (Kind.Boolean b) s K a = wrong (level_of forms) _ _ s (λ e. e) refl
  does_behind f v (Kind.Integer signed) s K a = wrong (level_of forms) _ _ s (λ e. e) refl
  does_behind f v Kind.Fraction s K a = wrong (level_of forms) _ _ s (λ e. e) refl
  does_behind f v Kind.Bits s K a = wrong (level_of forms) _ _ s (λ e. e) refl
  does_behind f v Kind.Blob s K a = wrong (level_of forms) _ _ s (λ e. e) refl
  does_behind f v (Kind.Text form) s K a = wrong (level_of forms) _ _ s (λ e. e) refl
  does_behind f v Kind.Later s K a = wrong (level_of forms) _ _ s (λ e. e) refl
  does_behind f v (Kind.Symbol y) s K a = does_behind_sign f v y s K
  does_behind f v Kind.Colon s K a = does_colon f v s K a
  does_behind f v Kind.TwoColons s K a = wrong (level_of forms) _ _ s (λ e. e) (no_names (names_of v) s (f ∷ K) (λ e. a.no_names e refl))
