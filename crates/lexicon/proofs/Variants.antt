-- What a token's kind holds is told by the kind. Assumes nothing.
use mathlib.Core.Path.{◌≡◌}
use Rattle.lexicon.specs.declared.Form.{Form}
use Rattle.lexicon.specs.declared.Kind.{Kind}

pub text_same : {f g : Form} → Kind.Text f ≡ Kind.Text g → f ≡ g
text_same e = cc
