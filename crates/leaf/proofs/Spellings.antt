-- A Text's bytes by its form; which node is a Text or a Nesting, and which a literal. Assumes nothing.
use mathlib.Core.Path.{◌≡◌, refl, subst}
use mathlib.Core.List.{List}
use mathlib.Core.Logic.{◌⊎◌, inl, inr}
use Prim.Native.Nat.{ℕ, ◌-◌, ◌≤◌, ◌<◌}
use native.Mathlib.Omega.{arith}
use lib.ListN.{take, drop}
use Rattle.rules.specs.Plain.{between}
use Rattle.buffer.specs.declared.Writer.{Writer}
use Rattle.buffer.specs.Appends.{Appends, AppendsPart}
use Rattle.buffer.proofs.Writing.{part_of}
use Rattle.lexicon.specs.declared.Head.{Head}
use Rattle.lexicon.specs.declared.Form.{Form}
use Rattle.grammar.specs.Tokens.{Span}
use Rattle.grammar.specs.Nodes.{NodeKind, kind_number_of}
use Rattle.form.specs.Bare.{bare}
use Rattle.form.specs.Spell.{quoted_bytes, part}
use Rattle.form.proofs.Walk
use Rattle.form.proofs.Walk.{Spelled, Named, Leaf}
use Rattle.leaf.specs.Leaves.{LeafBytes}
use Rattle.leaf.specs.declared.Node.{Node}

module _ (text : List ℕ) where
  -- ---- the bytes

  as_quoted_lem : {s : Span} {bs : List ℕ} → Spelled text Form.Quoted s bs → bare (part text s) ≡ bs
  as_quoted_lem Walk.as_quoted = refl

  as_head_lem : {h : Head} {s : Span} {bs : List ℕ} → Spelled text (Form.HeadWord h) s bs → quoted_bytes (part text s) ≡ bs
  as_head_lem Walk.as_head = refl

  pub quoted_spelled : {f : Form} {s : Span} → f ≡ Form.Quoted → (bs : List ℕ) → Spelled text f s bs → bare (part text s) ≡ bs
  quoted_spelled {s = s} e bs x = as_quoted_lem (subst (λ (g : Form). Spelled text g s bs) e x)

  pub head_spelled : {f : Form} {h : Head} {s : Span} → f ≡ Form.HeadWord h → (bs : List ℕ) → Spelled text f s bs →
      quoted_bytes (part text s) ≡ bs
  head_spelled {s = s} e bs x = as_head_lem (subst (λ (g : Form). Spelled text g s bs) e x)

  as_word_lem : {s : Span} {bs : List ℕ} → Spelled text Form.Word s bs → part text s ≡ bs
  as_word_lem Walk.as_word = refl

  as_code_lem : {s : Span} {bs : List ℕ} → Spelled text Form.CodePoint s bs → part text s ≡ bs
  as_code_lem Walk.as_code = refl

  pub copy_spelled : {f : Form} {s : Span} → (f ≡ Form.Word) ⊎ (f ≡ Form.CodePoint) → (bs : List ℕ) → Spelled text f s bs →
      part text s ≡ bs
  copy_spelled {s = s} (inl e) bs x = as_word_lem (subst (λ (g : Form). Spelled text g s bs) e x)
  copy_spelled {s = s} (inr e) bs x = as_code_lem (subst (λ (g : Form). Spelled text g s bs) e x)

  -- ---- nodes by the numbers of their kinds

  pub named_leaf : {k : NodeKind} {d : ℕ} {s : Span} → 7 ≤ kind_number_of k → (bs : List ℕ) → Leaf text k d s bs →
      Named text s.first s.end bs
  named_leaf e bs Walk.ignorance = absurd (omega (arith, e))
  named_leaf e bs Walk.boolean = absurd (omega (arith, e))
  named_leaf e bs Walk.integer = absurd (omega (arith, e))
  named_leaf e bs Walk.fraction = absurd (omega (arith, e))
  named_leaf e bs Walk.bits = absurd (omega (arith, e))
  named_leaf e bs Walk.blob = absurd (omega (arith, e))
  named_leaf e bs (Walk.wording x) = x
  named_leaf e bs (Walk.nesting x) = x

  pub literal_leaf : {k : NodeKind} {d : ℕ} {s : Span} → kind_number_of k < 7 → (bs : List ℕ) → Leaf text k d s bs → bare (part text s) ≡ bs
  literal_leaf h bs Walk.ignorance = refl
  literal_leaf h bs Walk.boolean = refl
  literal_leaf h bs Walk.integer = refl
  literal_leaf h bs Walk.fraction = refl
  literal_leaf h bs Walk.bits = refl
  literal_leaf h bs Walk.blob = refl
  literal_leaf h bs (Walk.wording x) = absurd (omega (arith, h))
  literal_leaf h bs (Walk.nesting x) = absurd (omega (arith, h))

-- a literal's bytes that are kept are the leaf's: a search finds it, whatever test shows that the node is a literal
pub bare_leaf : {text : List ℕ} {node : Node} {u v : Writer} → Appends u (bare (take (node.end - node.first) (drop node.first text))) v →
    node.kind < 7 → AppendsPart (LeafBytes text node) u v
unfolding between
bare_leaf {text} a h = part_of (λ bs x. literal_leaf text (omega (arith, h, x.kind_is)) bs x.leaf) a
