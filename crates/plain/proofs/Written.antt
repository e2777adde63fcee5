-- What the writer has written at each way out: a node, or a child of a bracket. Assumes nothing.
use mathlib.Core.Path.{◌≡◌, sym, ap, subst, ◌∙◌}
use mathlib.Core.List.{List, [], ◌∷◌}
use Prim.Native.Nat.{ℕ, ◌+◌, ◌*◌, ◌-◌, ◌/◌, ◌≤◌, ◌<◌}
use native.Mathlib.Omega.{arith}
use lib.ListN.{length}
use Rattle.grammar.specs.Tokens.{Span}
use Rattle.grammar.specs.Nodes
use Rattle.grammar.specs.Nodes.{NodeKind, kind_number_of, role_number, node_words}
use Rattle.buffer.specs.declared.Writer.{Writer}
use Rattle.buffer.specs.Appends.{Appends, AppendsPart}
use Rattle.buffer.proofs.Appending.{appends_then, appends_same, appends_length}
use Rattle.buffer.proofs.Writing.{part_none}
use Rattle.grammar.proofs.Branches.{Branch, flat}
use Rattle.form.proofs.Walk
use Rattle.form.proofs.Walk.{Leaf, Walked, Listed, tail}
use Rattle.leaf.specs.declared.Node.{Node as Told}
use Rattle.leaf.specs.Leaves.{LeafBytes}
use Rattle.marks.specs.declared.Attributes.{Attributes}
use Rattle.marks.specs.ByNumber.{opening_by, closing_by, tail_by}
use Rattle.marks.proofs.Around.{opens, closes, tails}
use Rattle.plain.specs.Nodes.{Tells, Children, Stands, Past, NodeBytes, ChildBytes, alone, turned}
use Rattle.plain.proofs.Tables.{some_node, has_fits, has_rest, kind_word_lem, first_word, end_word_lem, detail_word_lem}
use Rattle.plain.proofs.Steps.{Going, going_ends}

leaf_kind_lem : {text : List ℕ} {k : NodeKind} {d : ℕ} {s : Span} {bs : List ℕ} → Leaf text k d s bs → kind_number_of k < kind_number_of Nodes.a_pair
leaf_kind_lem Walk.ignorance = omega arith
leaf_kind_lem Walk.boolean = omega arith
leaf_kind_lem Walk.integer = omega arith
leaf_kind_lem Walk.fraction = omega arith
leaf_kind_lem Walk.bits = omega arith
leaf_kind_lem Walk.blob = omega arith
leaf_kind_lem (Walk.wording n) = omega arith
leaf_kind_lem (Walk.nesting n) = omega arith

-- the words from a node on
abbrev pub left_from : List ℕ → ℕ → ℕ
left_from words index = length words - index * node_words

module _ {text words : List ℕ} {index : ℕ} where
  -- ---- a node

  pub no_node : {u : Writer} {n : ℕ} → n ≡ length words / node_words → n ≤ index → AppendsPart (NodeBytes text words index) u u
  no_node e h = part_none (λ bs x. absurd (omega (arith, e, h, some_node x.b x.parent index, has_fits x.stands)))

  pub leaf_written : {node : Told} {u v : Writer} → Tells words index node → node.kind < kind_number_of Nodes.a_pair →
      AppendsPart (LeafBytes text node) u v → AppendsPart (NodeBytes text words index) u v
  leaf_written {node} {u} {v} told low w =
      record {
        appends = λ bs x. go x.b bs x.parent x.stands x.walked;
        same_buffer = w.same_buffer;
        same_length = w.same_length;
      }
    where
      go : (b : Branch) (bs : List ℕ) (p : ℕ) → Stands words b p index → Walked text b bs → Appends u bs v
      go b bs p x (Walk.leaf {k = k} {s = s} {d = d} i j l) =
          let f : node.first ≡ s.first = told.first_is ∙ first_word x in
          let e : node.end ≡ s.end = told.end_is ∙ end_word_lem x in
          let a = subst (λ (z : ℕ). Leaf text k z s bs) (sym (told.detail_is ∙ detail_word_lem x)) l in
          let c = subst (λ (z : ℕ). Leaf text k node.detail (record { first = z; end = s.end }) bs) (sym f) a in
          w.appends bs (record {
            of = k;
            kind_is = told.kind_is ∙ kind_word_lem x;
            in_order = omega (arith, f, e, i);
            within = omega (arith, e, j);
            leaf = subst (λ (z : ℕ). Leaf text k node.detail (record { first = node.first; end = z }) bs) (sym e) c;
          })
      go b bs p x (Walk.bracket high l) = absurd (omega (arith, low, high, told.kind_is, kind_word_lem x))

  pub bracket_written : {node : Told} {u v w x y : Writer} {before i stop : ℕ} {count : Attributes} → Tells words index node →
      kind_number_of Nodes.a_pair ≤ node.kind → Past words index stop → Appends u (opening_by node.kind) v →
      Going text words node.detail stop (index + 1) v w before count i → stop ≤ i →
      Appends w (tail_by node.kind node.detail count) x → Appends x (closing_by node.kind) y →
      AppendsPart (NodeBytes text words index) u y
  bracket_written {node} {u} {v} {w} {x} {y} {stop = stop} {count = count} told high past opened going ended tailed closed =
      record {
        appends = λ bs z. go z.b bs z.parent z.stands (past.is z.b z.parent z.stands) z.walked;
        same_buffer = closed.same_buffer ∙ tailed.same_buffer ∙ going.same_buffer ∙ opened.same_buffer;
        same_length = appends_length closed ∙ appends_length tailed ∙ going.same_length ∙ appends_length opened;
      }
    where
      go : (b : Branch) (bs : List ℕ) (p : ℕ) → Stands words b p index → stop ≡ index + length (flat b p index) → Walked text b bs →
          Appends u bs y
      go b bs p x e (Walk.leaf i j l) = absurd (omega (arith, high, leaf_kind_lem l, told.kind_is, kind_word_lem x))
      go b bs p x e (Walk.bracket {k = k} {s = s} {r = r} {d = d} {cs = cs} {bs = inner} h l) =
          let ki : node.kind ≡ kind_number_of k = told.kind_is ∙ kind_word_lem x in
          let di : node.detail ≡ d = told.detail_is ∙ detail_word_lem x in
          let c : Children words (index + 1) stop cs = record { parent = index; from = has_rest (_ ∷ []) _ x; stop_is = omega (arith, e) } in
          let ls = subst (λ (y : ℕ). Listed text y 0 cs inner) (sym di) l in
          let g = going_ends text words node.detail stop ended going cs inner c ls in
          let ends = ap (λ (y : ℕ). tail_by y node.detail count) ki ∙ tails k node.detail count cs g.1 ∙ ap (λ (y : ℕ). tail k y cs) di in
          appends_then
          (appends_then (appends_then (appends_same (ap opening_by ki ∙ opens k h) opened) g.0) (appends_same ends tailed))
          (appends_same (ap closing_by ki ∙ closes k h) closed)

-- ---- a child

module _ {text words : List ℕ} {role index : ℕ} where
  pub child_alone : {u v : Writer} → (role ≡ role_number Nodes.that_before → ⊥) →
      AppendsPart (NodeBytes text words index) u v → AppendsPart (ChildBytes text words role index) u v
  child_alone {u} {v} other w =
      record { appends = λ bs x. go x; same_buffer = w.same_buffer; same_length = w.same_length }
    where
      go : {bs : List ℕ} → ChildBytes text words role index bs → Appends u bs v
      go (alone {bs} o x) = w.appends bs x
      go (turned that a b) = absurd (other that)

  pub child_turned : {u v w x : Writer} {then : ℕ} → role ≡ role_number Nodes.that_before → Past words index then →
      AppendsPart (NodeBytes text words then) u v → Appends v (58 ∷ []) w → AppendsPart (NodeBytes text words index) w x →
      AppendsPart (ChildBytes text words role index) u x
  child_turned {u} {v} {w} {x} that past this colon last =
      record {
        appends = λ bs y. go y;
        same_buffer = last.same_buffer ∙ colon.same_buffer ∙ this.same_buffer;
        same_length = last.same_length ∙ appends_length colon ∙ this.same_length;
      }
    where
      go : {bs : List ℕ} → ChildBytes text words role index bs → Appends u bs x
      go (alone other y) = absurd (other that)
      go (turned {m = m} {n = n} e a b) =
          let at-then = subst (λ (i : ℕ). NodeBytes text words i n) (sym (past.is a.b a.parent a.stands)) b in
          appends_then (appends_then (this.appends n at-then) colon) (last.appends m a)
