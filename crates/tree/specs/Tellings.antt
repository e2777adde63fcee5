-- What a literal's node tells, and what the literal is to a colon; a token that is none tells nothing. Assumes nothing.
use Rattle.std.specs.Prelude.{◌≡◌, ℕ}
use Rattle.lexicon.specs.declared.Kind.{Kind}
use Rattle.grammar.specs.Tokens
use Rattle.grammar.specs.Tokens.{Wording, wording}
use Rattle.grammar.specs.Nodes.{truth_detail, spelling_detail}
use Rattle.moves.specs.declared.Shape.{Shape}
use Rattle.tree.specs.declared.leaf.Telling.{Telling}

abbrev pub wording_detail : Wording → ℕ
wording_detail (Tokens.spelled w) = spelling_detail w
wording_detail (Tokens.head_word h) = 2

abbrev pub wording_shape : Wording → Shape
wording_shape (Tokens.spelled w) = Shape.Name
wording_shape (Tokens.head_word h) = Shape.Bare h

abbrev pub leaf_kind : Kind → ℕ
leaf_kind Kind.Ignorance = 1
leaf_kind (Kind.Boolean b) = 2
leaf_kind (Kind.Integer b) = 3
leaf_kind Kind.Fraction = 4
leaf_kind Kind.Bits = 5
leaf_kind Kind.Blob = 6
leaf_kind (Kind.Text form) = 7
leaf_kind Kind.Later = 0
leaf_kind (Kind.Symbol s) = 0
leaf_kind Kind.Colon = 0
leaf_kind Kind.TwoColons = 0

abbrev pub leaf_detail : Kind → ℕ
leaf_detail Kind.Ignorance = 0
leaf_detail (Kind.Boolean b) = truth_detail b
leaf_detail (Kind.Integer b) = 0
leaf_detail Kind.Fraction = 0
leaf_detail Kind.Bits = 0
leaf_detail Kind.Blob = 0
leaf_detail (Kind.Text form) = wording_detail (wording form)
leaf_detail Kind.Later = 0
leaf_detail (Kind.Symbol s) = 0
leaf_detail Kind.Colon = 0
leaf_detail Kind.TwoColons = 0

abbrev pub leaf_shape : Kind → Shape
leaf_shape Kind.Ignorance = Shape.Other
leaf_shape (Kind.Boolean b) = Shape.Other
leaf_shape (Kind.Integer b) = Shape.Other
leaf_shape Kind.Fraction = Shape.Other
leaf_shape Kind.Bits = Shape.Other
leaf_shape Kind.Blob = Shape.Other
leaf_shape (Kind.Text form) = wording_shape (wording form)
leaf_shape Kind.Later = Shape.Other
leaf_shape (Kind.Symbol s) = Shape.Other
leaf_shape Kind.Colon = Shape.Other
leaf_shape Kind.TwoColons = Shape.Other

pub record ToldAs (kind detail : ℕ) (shape : Shape) (r : Telling) : Type 0 where
  pub kind_is : r.kind ≡ kind
  pub detail_is : r.detail ≡ detail
  pub shape_is : r.shape ≡ shape

abbrev pub LeafTold : Kind → Telling → Type 0
LeafTold k r = ToldAs (leaf_kind k) (leaf_detail k) (leaf_shape k) r
