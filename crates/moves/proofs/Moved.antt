-- The model's moves are what the machine does, so the code has only to compute as the model does. Assumes nothing.
use mathlib.Core.Path.{◌≡◌, sym, ap, subst, ◌∙◌}
use Rattle.lexicon.specs.declared.Kind.{Kind}
use Rattle.grammar.specs.Tokens.{tok, class_kind}
use Rattle.moves.specs.declared.Forms.{Forms}
use Rattle.moves.specs.declared.Mode.{Mode}
use Rattle.moves.specs.declared.Move.{Move}
use Rattle.moves.specs.Means.{level_of}
use Rattle.moves.specs.Effects.{Does}
use Rattle.moves.specs.Moves.{Moves}
use Rattle.moves.proofs.Model as Model
use Rattle.moves.proofs.Does.{does}

pub moved : {forms : Forms} {mode : Mode} {kind : Kind} {r : Move} → r ≡ Model.move forms mode kind → Moves forms mode kind r
moved {forms} {mode} {kind} {r} e =
    record {
      does = λ c m a s.
          subst (λ (x : Move). Does (level_of forms) c (tok (class_kind kind) s) x)
          (ap (λ (x : Mode). Model.move forms x kind) m ∙ sym e) (does forms c kind s a);
    }
