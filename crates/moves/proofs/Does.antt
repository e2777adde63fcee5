-- The moves are the grammar's machine, seen through the modes. Assumes nothing.
use mathlib.Core.Bool.{false≢true}
use mathlib.Core.List.{[], ◌∷◌}
use Rattle.lexicon.specs.declared.Kind.{Kind}
use Rattle.grammar.specs.Tokens.{Span, tok, class_kind}
use Rattle.grammar.proofs.Frames as Frames
use Rattle.grammar.proofs.Frames.{Config}
use Rattle.moves.specs.declared.Forms.{Forms}
use Rattle.moves.proofs.Model.{move}
use Rattle.moves.specs.Means.{level_of, mode_of}
use Rattle.moves.specs.Effects.{Does, Asked}
use Rattle.moves.proofs.Lead.{does_lead}
use Rattle.moves.proofs.Behind.{does_behind}
use Rattle.moves.proofs.Others.{does_head, does_count, does_counted, does_closing}

pub does : (forms : Forms) (c : Config) (k : Kind) (s : Span) → Asked c k → Does (level_of forms) c (tok (class_kind k) s) (move forms (mode_of c) k)
does forms (Frames.want []) k s a = absurd (false≢true a.within)
does forms (Frames.want (f ∷ K)) k s a = does_lead (level_of forms) f k s K
does forms (Frames.have v []) k s a = absurd (false≢true a.within)
does forms (Frames.have v (f ∷ K)) k s a = does_behind forms f v k s K a
does forms (Frames.want_text n o K) k s a = absurd (false≢true a.within)
does forms (Frames.want_curly o h t j K) k s a = does_head (level_of forms) o h t j K s k
does forms (Frames.want_count c f v j K) k s a = does_count (level_of forms) c f v j K s k
does forms (Frames.have_item c f i K) k s a = does_counted (level_of forms) c f i K s k
does forms (Frames.want_close c K) k s a = does_closing (level_of forms) forms c K s k
