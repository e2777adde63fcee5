-- What the search for the place of a bad value answers. Assumes nothing.
use Rattle.std.specs.Prelude.{◌≡◌, List, ℕ}
use Rattle.lexicon.specs.declared.Form.TheVariants.{Quoted}
use Rattle.lexicon.specs.declared.Kind.TheVariants.{Text}
use Rattle.lexicon.specs.declared.Token as Token
use Rattle.string.specs.FirstBad.{Points}

-- of a quoted text the place of the first bad escape, of any other token its first byte
pub record PointsIn (text : List ℕ) (t : Token.Token) (place : ℕ) : Type 0 where
  pub inside_quotes : t.kind ≡ Text Quoted → Points text t.first place
  pub first_byte : (t.kind ≡ Text Quoted → ⊥) → place ≡ t.first
