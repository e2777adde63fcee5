-- A literal by itself: what its node tells is what the definitions say of its class, and its value is read. Assumes nothing.
use mathlib.Core.Path.{◌≡◌, refl, sym, ap, subst, ◌∙◌}
use mathlib.Core.Bool.{true, false, false≢true}
use mathlib.Core.List.{List}
use mathlib.Core.Option.{none, some}
use Prim.Native.Nat.{ℕ, ◌+◌}
use native.Mathlib.Omega.{arith}
use lib.ListN.{length}
use Rattle.lexicon.specs.declared.Head.{Head}
use Rattle.lexicon.specs.declared.Form.TheVariants as Form
use Rattle.lexicon.specs.declared.Kind.{Kind}
use Rattle.lexicon.specs.declared.Token as Token
use Rattle.grammar.specs.Tokens
use Rattle.grammar.specs.Tokens.{Span, Atom, Wording, Class, class_kind}
use Rattle.grammar.specs.Tree
use Rattle.grammar.specs.Tree.{Value}
use Rattle.grammar.specs.Level.{Level}
use Rattle.grammar.specs.Nodes as Nodes
use Rattle.grammar.specs.Nodes.{NodeKind, kind_number_of, atom_kind, atom_detail, nodes, leaf}
use Rattle.grammar.proofs.Frames.{Stack, have, names_of}
use Rattle.grammar.proofs.Machine.{text_value, want_class}
use Rattle.reading.proofs.At.{plain, kind_of, class_kind_lem, literal_on, bad_here}
use Rattle.moves.specs.declared.Role.TheVariants as Role
use Rattle.moves.specs.declared.Shape.{Shape}
use Rattle.moves.specs.Means.{level_of, shape_of}
use Rattle.table.specs.declared.Entry.{Entry}
use Rattle.table.specs.Over.{entry_words, Stored, Written}
use Rattle.table.proofs.Written.{told_put, written_node}
use Rattle.token.specs.Places.{PointsIn}
use Rattle.token.proofs.Places.{bad_placed}
use Rattle.std.specs.Prelude.{Ok, Err}
use Rattle.reading.specs.declared.Refusal.{Refusal}
use Rattle.begin.specs.Signs.{literal}
use Rattle.tree.specs.declared.leaf.Telling.{Telling}
use Rattle.tree.specs.Readers.{span_of, Literal}
use Rattle.tree.specs.Tellings.{wording_detail, wording_shape, leaf_kind, leaf_detail, leaf_shape, LeafTold}

-- ---- what the node tells

-- the kind tells these
pub record LeafTells (k : Kind) (kind : NodeKind) (detail : ℕ) (shape : Shape) : Type 0 where
  pub kind_is : leaf_kind k ≡ kind_number_of kind
  pub detail_is : leaf_detail k ≡ detail
  pub shape_is : leaf_shape k ≡ shape

atom_kind_lem : (a : Atom) → LeafTells (kind_of (Tokens.atom a)) (atom_kind a) (atom_detail a) Shape.Other
atom_kind_lem Tokens.ignorance = record { kind_is = refl; detail_is = refl; shape_is = refl }
atom_kind_lem (Tokens.boolean b) = record { kind_is = refl; detail_is = refl; shape_is = refl }
atom_kind_lem (Tokens.integer b) = record { kind_is = refl; detail_is = refl; shape_is = refl }
atom_kind_lem Tokens.fraction = record { kind_is = refl; detail_is = refl; shape_is = refl }
atom_kind_lem Tokens.bits = record { kind_is = refl; detail_is = refl; shape_is = refl }
atom_kind_lem Tokens.blob = record { kind_is = refl; detail_is = refl; shape_is = refl }

text_kind : (w : Wording) → LeafTells (kind_of (Tokens.text w)) Nodes.a_text (wording_detail w) (wording_shape w)
text_kind (Tokens.spelled Tokens.quoted) = record { kind_is = refl; detail_is = refl; shape_is = refl }
text_kind (Tokens.spelled Tokens.word) = record { kind_is = refl; detail_is = refl; shape_is = refl }
text_kind (Tokens.spelled Tokens.code_point_of) = record { kind_is = refl; detail_is = refl; shape_is = refl }
text_kind (Tokens.head_word h) = record { kind_is = refl; detail_is = refl; shape_is = refl }

pub atom_tells : (k : Kind) {a : Atom} → class_kind k ≡ Tokens.atom a → LeafTells k (atom_kind a) (atom_detail a) Shape.Other
atom_tells k {a} e = subst (λ (x : Kind). LeafTells x (atom_kind a) (atom_detail a) Shape.Other) (sym (class_kind_lem k e)) (atom_kind_lem a)

pub text_tells : (k : Kind) {w : Wording} → class_kind k ≡ Tokens.text w → LeafTells k Nodes.a_text (wording_detail w) (wording_shape w)
text_tells k {w} e = subst (λ (x : Kind). LeafTells x Nodes.a_text (wording_detail w) (wording_shape w)) (sym (class_kind_lem k e)) (text_kind w)

-- of a Text's value
pub text_shape : (w : Wording) (s : Span) → shape_of (text_value w s) ≡ wording_shape w
text_shape (Tokens.spelled w) s = refl
text_shape (Tokens.head_word h) s = refl

pub text_nodes : (w : Wording) (s : Span) (p : ℕ) (r : Nodes.Role) (i : ℕ) → nodes (text_value w s) p r i ≡ leaf Nodes.a_text s p r (wording_detail w)
text_nodes (Tokens.spelled w) s p r i = refl
text_nodes (Tokens.head_word h) s p r i = refl

text_names : (w : Wording) (s : Span) → names_of (text_value w s) ≡ none
text_names (Tokens.spelled w) s = refl
text_names (Tokens.head_word h) s = refl

-- a bare head word alone has this shape
text_bare : (w : Wording) (h : Head) → wording_shape w ≡ Shape.Bare h → kind_of (Tokens.text w) ≡ Kind.Text (Form.HeadWord h)
text_bare (Tokens.spelled w) h e = let z : ◌≡◌ {A = ℕ} 0 1 = cc in absurd (omega arith)
text_bare (Tokens.head_word g) h e = cc

-- ---- the value

-- a literal's value at a place s for one
record LiteralValue (l : Level) (k : Kind) (s : Span) (K : Stack) : Type 0 where
  tree : Value
  is_plain : plain (class_kind k) ≡ true
  steps : want_class l (class_kind k) s K ≡ some (have tree K)
  no_names : names_of tree ≡ none
  shape_is : shape_of tree ≡ leaf_shape k
  bare : (h : Head) → leaf_shape k ≡ Shape.Bare h → k ≡ Kind.Text (Form.HeadWord h)
  kind : NodeKind
  kind_is : kind_number_of kind ≡ leaf_kind k
  nodes_are : (p i : ℕ) → nodes tree p Nodes.root i ≡ leaf kind s p Nodes.root (leaf_detail k)

literal_value : (l : Level) (k : Kind) (s : Span) (K : Stack) (c : Class) → class_kind k ≡ c → literal c ≡ true → LiteralValue l k s K
literal_value l k s K (Tokens.atom a) e h =
    let d = atom_tells k e in
    record {
      tree = Tree.plain (Tree.literal a s);
      is_plain = ap plain e;
      steps = ap (λ (x : Class). want_class l x s K) e;
      no_names = refl;
      shape_is = sym d.shape_is;
      bare = λ g x. let y : Shape.Other ≡ Shape.Bare g = sym d.shape_is ∙ x in let z : ◌≡◌ {A = ℕ} 0 1 = cc in absurd (omega arith);
      kind = atom_kind a;
      kind_is = sym d.kind_is;
      nodes_are = λ p i. ap (leaf (atom_kind a) s p Nodes.root) (sym d.detail_is);
    }
literal_value l k s K (Tokens.text w) e h =
    let d = text_tells k e in
    record {
      tree = text_value w s;
      is_plain = ap plain e;
      steps = ap (λ (x : Class). want_class l x s K) e;
      no_names = text_names w s;
      shape_is = text_shape w s ∙ sym d.shape_is;
      bare = λ g x. class_kind_lem k e ∙ text_bare w g (sym d.shape_is ∙ x);
      kind = Nodes.a_text;
      kind_is = sym d.kind_is;
      nodes_are = λ p i. text_nodes w s p Nodes.root i ∙ ap (leaf Nodes.a_text s p Nodes.root) (sym d.detail_is);
    }
literal_value l k s K Tokens.names e h = absurd (false≢true h)
literal_value l k s K Tokens.round e h = absurd (false≢true h)
literal_value l k s K Tokens.curly e h = absurd (false≢true h)
literal_value l k s K Tokens.square e h = absurd (false≢true h)
literal_value l k s K (Tokens.mark m) e h = absurd (false≢true h)
literal_value l k s K Tokens.later e h = absurd (false≢true h)

module _ (text : List ℕ) (t : Token.Token) (lent left : List ℕ) (index parent : ℕ) where
  pub literal_bad : {q : ℕ} → t.bad ≡ true → PointsIn text t q → Literal text t lent left index parent (Err (record { refusal = Refusal.BadValue; place = q }))
  literal_bad b p =
      record {
        sized = tt;
        outcome = λ limits forms K d at a h.
            let v = literal_value (level_of forms) t.kind (span_of t) K (class_kind t.kind) refl h in
            bad_here limits (level_of forms) text a.stands t a.comes v.is_plain b (bad_placed text a.comes b p) v.steps;
      }

  -- the node of a token that is a value by itself
  abbrev pub alone : Telling → Entry
  alone r = record { kind = r.kind; first = t.first; end = t.end; parent = parent; role = Role.Root; detail = r.detail; skip = index + 1 }

  pub literal_read : (r : Telling) → t.bad ≡ false → LeafTold t.kind r → Stored lent left index (entry_words (alone r)) →
      Literal text t lent left index parent (Ok (record { end = t.end; nodes = 1; shape = r.shape }))
  literal_read r b says stored =
      record {
        sized = (refl, refl);
        outcome = λ limits forms K d at a h.
            let v = literal_value (level_of forms) t.kind (span_of t) K (class_kind t.kind) refl h in
            let node : Nodes.Node = record { kind = v.kind; at = span_of t; parent = parent; role = Nodes.root; detail = leaf_detail t.kind; stretch = 1 } in
            record {
              tree = v.tree;
              depth = d;
              stands = literal_on limits (level_of forms) text a.stands t a.comes v.is_plain b v.steps;
              stops = λ u k x. v.no_names;
              shape_is = v.shape_is ∙ sym says.shape_is;
              bare = λ g x. (v.bare g (sym says.shape_is ∙ x), refl);
              count_is = sym (ap length (v.nodes_are parent index));
              written =
                  subst (λ (ns : List Nodes.Node). Written lent left index ns) (sym (v.nodes_are parent index))
                  (written_node node
                  (told_put {e = alone r} {n = node}
                  (record {
                    kind = v.kind_is ∙ sym says.kind_is;
                    first = refl;
                    end = refl;
                    parent = refl;
                    role = refl;
                    detail = sym says.detail_is;
                    skip = refl;
                  }) stored));
            };
      }
