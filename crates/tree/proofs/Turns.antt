-- One turn inside a bracket that reads no value: where the machine stands behind it, and the members' nodes. Assumes nothing.
use mathlib.Core.Path.{◌≡◌, refl, sym, ap, subst, ◌∙◌}
use mathlib.Core.Bool.{Bool, true, false, false≢true}
use mathlib.Core.Logic.{◌⊎◌, inl, inr}
use mathlib.Core.List.{List, [], ◌∷◌, ◌++◌}
use mathlib.Core.Option.{none, some}
use Prim.Native.Nat.{ℕ, ◌+◌, ◌≤◌}
use native.Mathlib.Omega.{arith}
use lib.ListN.{length, length-append}
use Rattle.rules.proofs.Bools.{clash, decide}
use Rattle.lexicon.specs.declared.Token as Token
use Rattle.lexicon.specs.declared.Next.TheVariants as Next
use Rattle.lexicon.specs.Token.{Comes}
use Rattle.grammar.specs.Tokens
use Rattle.grammar.specs.Tokens.{Span, Mark, Class, Tok, class_kind}
use Rattle.grammar.specs.Tree
use Rattle.grammar.specs.Tree.{Value}
use Rattle.grammar.specs.Level.{Level}
use Rattle.grammar.specs.Nodes as Nodes
use Rattle.grammar.specs.Nodes.{Node, nodes, over}
use Rattle.grammar.proofs.NodeLaws.{roled, relabel, some_node}
use Rattle.grammar.proofs.Frames as Frames
use Rattle.grammar.proofs.Frames.{Config, Stack, want, have, names_of}
use Rattle.grammar.proofs.Machine.{have_class, step}
use Rattle.reading.specs.declared.Limits.{Limits}
use Rattle.reading.specs.Tokens.{seen, open_mark}
use Rattle.reading.specs.Faults.{Retired}
use Rattle.reading.proofs.Decide.{is_arrow, not_arrow}
use Rattle.reading.proofs.At.{At, opens, sign_on, literal_on, open_on, never_bad, may_be_bad, plain, kind_of, curly_known, sign_wrong, not_here, deep_here, retired_here, class_kind_lem}
use Rattle.moves.specs.declared.Forms.{Forms}
use Rattle.moves.specs.declared.NodeKind.{NodeKind}
use Rattle.moves.specs.declared.Role.{Role}
use Rattle.moves.specs.declared.Shape.{Shape}
use Rattle.moves.specs.declared.Style.{Style}
use Rattle.moves.specs.declared.Frame.{Frame}
use Rattle.moves.specs.declared.Mode.{Mode}
use Rattle.moves.specs.declared.Move.{Move}
use Rattle.moves.specs.Means.{given, level_of, node_kind_of, role_of, shape_of, before, last, children, open_of}
use Rattle.moves.specs.Effects.{flat, counting, opening, held, Leads, Paired, Does}
use Rattle.moves.proofs.Steps.{paired_held, paired_named}
use Rattle.table.specs.Over.{Written, Assigned, Put}
use Rattle.table.proofs.Words.{roled_length}
use Rattle.table.proofs.Written.{told_put, written_more, written_node, written_front, written_role, written_first}
use Rattle.std.specs.Prelude.{Result, Ok, Err}
use Rattle.reading.specs.declared.Refusal.{Refusal}
use Rattle.reading.specs.declared.Refused.{Refused}
use Rattle.begin.specs.Begins.{refused_at}
use Rattle.tree.specs.declared.bracket.State as State
use Rattle.tree.specs.declared.bracket.Turn.{Turn}
use Rattle.begin.specs.Signs.{is_close_of}
use Rattle.tree.specs.Readers.{span_of, Taken, signs, Holds, Turns}
use Rattle.tree.proofs.Leaves.{atom_tells}
use Rattle.tree.specs.Turning.{count_entry, close_entry, Led, Leading, Tupled, Counted, Deepened, Shuts, Closed}

-- ---- roles of the value that was read last

-- where none was read, there is no node of one
root_last : (c : Config) (i : ℕ) → roled Nodes.root (last c i) ≡ last c i
root_last (Frames.want K) i = refl
root_last (Frames.have v []) i = refl
root_last (Frames.have v (f ∷ K)) i = relabel v i Nodes.root Nodes.root _
root_last (Frames.want_text n o K) i = refl
root_last (Frames.want_curly o h s k K) i = refl
root_last (Frames.want_count c f v k K) i = refl
root_last (Frames.have_item c f t K) i = refl
root_last (Frames.want_close c K) i = refl

some_last : (c : Config) (i : ℕ) → held c ≡ true → 1 ≤ length (last c i)
some_last (Frames.want K) i e = absurd (false≢true e)
some_last (Frames.have v []) i e = absurd (false≢true e)
some_last (Frames.have v (f ∷ K)) i e = some_node v i Nodes.root _
some_last (Frames.want_text n o K) i e = absurd (false≢true e)
some_last (Frames.want_curly o h s k K) i e = absurd (false≢true e)
some_last (Frames.want_count c f v k K) i e = absurd (false≢true e)
some_last (Frames.have_item c f t K) i e = absurd (false≢true e)
some_last (Frames.want_close c K) i e = absurd (false≢true e)

abbrev is_root : Role → Bool
is_root Role.Root = true
is_root Role.This = false
is_root Role.ThatAfter = false
is_root Role.ThatBefore = false
is_root Role.Name = false
is_root Role.Value = false
is_root Role.Count = false
is_root Role.Low = false
is_root Role.High = false
is_root Role.Single = false

not_root : (r : Role) → r ≡ Role.Root → is_root r ≡ false → ⊥
not_root r e f = false≢true (sym f ∙ ap is_root e)

told_length : (c : Config) (r : Nodes.Role) (i : ℕ) → length (before c i ++ roled r (last c i)) ≡ length (children c i)
told_length c r i =
    omega (arith, length-append (before c i) (roled r (last c i)), length-append (before c i) (last c i), roled_length r (last c i))

abbrev is_name : Shape → Bool
is_name (Shape.Bare h) = false
is_name Shape.Name = true
is_name Shape.Other = false

abbrev pub is_bare : Shape → Bool
is_bare (Shape.Bare h) = true
is_bare Shape.Name = false
is_bare Shape.Other = false

-- a count's value is never bad
count_kind : (a : Tokens.Atom) → counting a ≡ true → may_be_bad (kind_of (Tokens.atom a)) ≡ false
count_kind Tokens.ignorance e = refl
count_kind (Tokens.boolean b) e = refl
count_kind (Tokens.integer b) e = refl
count_kind Tokens.fraction e = absurd (false≢true e)
count_kind Tokens.bits e = refl
count_kind Tokens.blob e = absurd (false≢true e)

-- a value that is no name is no Nesting
other_names : (v : Value) → shape_of v ≡ Shape.Other → names_of v ≡ none
other_names (Tree.plain (Tree.literal a s)) e = refl
other_names (Tree.plain (Tree.text w s)) e = refl
other_names (Tree.plain (Tree.nesting n)) e = absurd (false≢true (sym (ap is_name e)))
other_names (Tree.plain (Tree.group o v c)) e = refl
other_names (Tree.plain (Tree.pair o p k v c)) e = refl
other_names (Tree.plain (Tree.arrowed o v a k w c)) e = refl
other_names (Tree.plain (Tree.tuple o i c)) e = refl
other_names (Tree.plain (Tree.lot o i c)) e = refl
other_names (Tree.plain (Tree.counted o h s k b i x c)) e = refl
other_names (Tree.plain (Tree.interval o b c)) e = refl
other_names (Tree.bare h s) e = refl

flat_depth : (m : Mark) (d : ℕ) → flat m ≡ true → open_mark m d ≡ d
flat_depth Tokens.round_close d e = absurd (false≢true e)
flat_depth Tokens.curly_close d e = absurd (false≢true e)
flat_depth Tokens.square_close d e = absurd (false≢true e)
flat_depth Tokens.comma d e = refl
flat_depth Tokens.colon d e = refl
flat_depth Tokens.right_arrow d e = refl
flat_depth Tokens.left_arrow d e = refl
flat_depth Tokens.dots d e = refl
flat_depth (Tokens.star a b) d e = refl

-- ---- the backward arrow

-- it ends no bracket
arrow_flat : (m : Mark) → flat m ≡ false → is_arrow (Tokens.mark m) ≡ false
arrow_flat Tokens.round_close e = refl
arrow_flat Tokens.curly_close e = refl
arrow_flat Tokens.square_close e = refl
arrow_flat Tokens.comma e = refl
arrow_flat Tokens.colon e = refl
arrow_flat Tokens.right_arrow e = refl
arrow_flat Tokens.left_arrow e = absurd (false≢true (sym e))
arrow_flat Tokens.dots e = refl
arrow_flat (Tokens.star a b) e = refl

-- and leads nowhere behind `:` and a value
arrow_paired : {l : Level} {c to : Config} {t : Tok} → Paired l c t → step l c t ≡ some to → t.class ≡ Tokens.mark Tokens.left_arrow → ⊥
arrow_paired {l} {t = t} p e a =
    false≢true (sym (ap (λ (x : Config). given (step l x t)) p.config_is
    ∙ ap (λ (k : Class). given (have_class l k p.value t.at (Frames.in_round (Frames.pair_colon p.first p.name p.colon) ∷ p.stack))) a) ∙ ap given e)

module _ (text : List ℕ) (limits : Limits) (forms : Forms) where
  -- ---- the words: a role told

  role_written : {lent from left : List ℕ} {k : ℕ} (index : ℕ) (c : Config) (r : Role) →
      Written lent from (index + 1) (children c index) → length from ≡ length lent → Assigned from left k r →
      (held c ≡ true → k ≡ index + 1 + length (before c index)) → (held c ≡ false → r ≡ Role.Root) →
      Written lent left (index + 1) (before c index ++ roled (role_of r) (last c index))
  role_written {lent} {from} {left} {k} index c r w e a last_is root_is = go (decide (held c))
    where
      go : (held c ≡ true) ⊎ (held c ≡ false) → Written lent left (index + 1) (before c index ++ roled (role_of r) (last c index))
      go (inl h) =
          written_role (before c index) (last c index) w e (subst (λ (x : ℕ). Assigned from left x r) (last_is h) a)
          (λ q. subst (λ (x : Role). roled (role_of x) (last c index) ≡ last c index) (sym q) (root_last c index))
          (λ n. some_last c index h)
      go (inr h) =
          let q = root_is h in
          subst (λ (x : Role). Written lent left (index + 1) (before c index ++ roled (role_of x) (last c index))) (sym q)
          (subst (λ (ns : List Node). Written lent left (index + 1) (before c index ++ ns)) (sym (root_last c index))
          (subst (λ (x : List ℕ). Written lent x (index + 1) (children c index)) (sym (a.kept q)) w))

  -- ---- on

  leads_holds : {opener : Token.Token} {lent from left : List ℕ} {index d at n k : ℕ} {K : Stack} {c : Config} {s : State.State} {mode : Mode} {then : ℕ → List Node} (t : Token.Token) →
      Holds text limits forms opener lent from index K c s → (g : Leads (level_of forms) c (seen t) mode then) →
      At limits (level_of forms) text d at g.to → length left ≡ length from → n ≡ length (then index) →
      Written lent left (index + 1) (then index) →
      Holds text limits forms opener lent left index K g.to (record { mode = mode; at = at; deep = d; nodes = n; last = k })
  leads_holds {lent = lent} {left = left} {index = index} t h g a e n w =
      record {
        stands = a;
        within = g.within;
        mode_is = g.mode_is;
        stack_is = g.stack_is ∙ h.stack_is;
        open_is = g.open_is ∙ h.open_is;
        no_head = λ x. absurd (clash x g.no_head);
        no_names = λ x. absurd (clash x g.no_names);
        unread = λ x. absurd (clash x g.no_first);
        no_group = λ x. absurd (clash x g.no_first);
        length_is = e ∙ h.length_is;
        count_is = n ∙ ap (λ (ns : List Node). length ns) (sym (g.members index));
        last_is = λ x. absurd (clash x g.no_value);
        written = subst (λ (ns : List Node). Written lent left (index + 1) ns) (sym (g.members index)) w;
      }

  module _ {opener : Token.Token} {lent from : List ℕ} {index : ℕ} {K : Stack} {c : Config} {s : State.State} (t : Token.Token)
      (h : Holds text limits forms opener lent from index K c s) (k : Comes text s.at (Next.Token t)) where
    -- a sign leads on, in the same depth
    led_on : {left : List ℕ} {mode : Mode} {role : Role} (r : Turn) (parent : ℕ) → Does (level_of forms) c (seen t) (Move.To mode role) → length left ≡ length from →
        (Retired limits t → ⊥) → Led s t mode role from left r → Turns text limits forms opener lent left index parent K (Ok r)
    led_on {left} {mode} {role} r parent (m, u, g) e x l =
        subst (λ (x : Turn). Turns text limits forms opener lent left index parent K (Ok x)) (sym l.turn_is) (
          g.to,
          leads_holds t h g
              (subst (λ (d : ℕ). At limits (level_of forms) text d t.end g.to) (flat_depth m.sign s.deep m.flat_is) (sign_on limits (level_of forms) text h.stands t k m.sign m.class_is x g.steps))
              e (h.count_is ∙ sym (told_length c (role_of role) index))
              (role_written index c role h.written h.length_is l.role_is h.last_is u),
        )

    -- or is refused, where it is retired
    pub leading_on : {left : List ℕ} {mode : Mode} {role : Role} (r : Result Turn Refused) (parent : ℕ) → Does (level_of forms) c (seen t) (Move.To mode role) → length left ≡ length from →
        Leading s t limits mode role from left r → Turns text limits forms opener lent left index parent K r
    leading_on {left} r parent (m, u, g) e (inl (x, q)) =
        subst (Turns text limits forms opener lent left index parent K) (sym q) (retired_here limits (level_of forms) text h.stands t k x g.steps)
    leading_on {left} r parent d e (inr (x, u)) =
        subst (Turns text limits forms opener lent left index parent K) (sym u.1) (led_on u.0 parent d e x u.2)

    -- `}` of a counted collection
    pub shut_on : {left : List ℕ} {style : Style} {role : Role} (r : Turn) (parent : ℕ) → Does (level_of forms) c (seen t) (Move.Shut style role) → length left ≡ length from →
        Shuts s t style role from left r → Turns text limits forms opener lent left index parent K (Ok r)
    shut_on {left} {style} {role} r parent (m, u, g) e l =
        subst (λ (x : Turn). Turns text limits forms opener lent left index parent K (Ok x)) (sym l.turn_is) (
          g.to,
          leads_holds t h g (sign_on limits (level_of forms) text h.stands t k Tokens.curly_close m (λ x. not_arrow t (ap is_arrow m) x) g.steps)
              e (h.count_is ∙ sym (told_length c (role_of role) index))
              (role_written index c role h.written h.length_is l.role_is h.last_is u),
        )

    -- the comma behind `(name:value`
    pub tuple_on : {left : List ℕ} (r : Turn) (parent : ℕ) → Does (level_of forms) c (seen t) Move.Tuple → (d : Tupled s t from left index r) →
        length left ≡ length from → Turns text limits forms opener lent left index parent K (Ok r)
    tuple_on {left} r parent (m, p, g) d e =
        let u = paired_held p in
        let ns = before c index in
        let same = roled_length Nodes.name ns in
        subst (λ (x : Turn). Turns text limits forms opener lent left index parent K (Ok x)) (sym d.led.turn_is) (
          g.to,
          leads_holds t h g
              (subst (λ (y : ℕ). At limits (level_of forms) text y t.end g.to) (flat_depth m.sign s.deep m.flat_is) (sign_on limits (level_of forms) text h.stands t k m.sign m.class_is (λ x. arrow_paired p g.steps x.arrow) g.steps))
              e
              (h.count_is ∙ omega (arith, length-append (roled Nodes.name ns) (roled Nodes.value (last c index)), length-append ns (last c index), same, roled_length Nodes.value (last c index)))
              (written_role (roled Nodes.name ns) (last c index)
              (written_first ns (last c index) h.written h.length_is d.name_is (λ q. not_root Role.Name q refl) (paired_named p index))
              (d.length_is ∙ h.length_is)
              (subst (λ (y : ℕ). Assigned d.named left y Role.Value) (h.last_is u ∙ ap (λ (n : ℕ). index + 1 + n) (sym same)) d.led.role_is)
              (λ q. absurd (not_root Role.Value q refl))
              (λ q. some_last c index u)),
        )

    -- `{` behind a head
    pub deeper_on : {style : Style} (r : Result Turn Refused) (parent : ℕ) → Does (level_of forms) c (seen t) (Move.Deeper style) → Deepened s t limits style r → Turns text limits forms opener lent from index parent K r
    deeper_on {style} r parent (m, g) (inl (d, e)) =
        subst (Turns text limits forms opener lent from index parent K) (sym e)
        (deep_here limits (level_of forms) text h.stands t k (ap opens m) (curly_known limits (level_of forms) text h.stands t m) d g.steps)
    deeper_on {style} r parent (m, g) (inr (d, e)) =
        subst (Turns text limits forms opener lent from index parent K) (sym e) (
          g.to,
          leads_holds t h g
              (subst (λ (y : ℕ). At limits (level_of forms) text y t.end g.to) (omega arith) (open_on limits (level_of forms) text h.stands t k (ap opens m) (curly_known limits (level_of forms) text h.stands t m) d g.steps))
              refl h.count_is h.written,
        )

    -- no sign takes the token
    pub wrong_here : (r : Result Turn Refused) (left : List ℕ) (parent : ℕ) → Does (level_of forms) c (seen t) Move.Wrong → r ≡ Err (refused_at Refusal.WrongPlace t) → Turns text limits forms opener lent left index parent K r
    wrong_here r left parent (e, inl n) q =
        subst (Turns text limits forms opener lent left index parent K) (sym q) (not_here limits (level_of forms) text h.stands t k n e)
    wrong_here r left parent (e, inr (m, x)) q =
        subst (Turns text limits forms opener lent left index parent K) (sym q) (sign_wrong limits (level_of forms) text h.stands t k m x e)

    -- a count, which is a node by itself
    pub count_on : {left : List ℕ} {style : Style} (r : Turn) (parent : ℕ) → Does (level_of forms) c (seen t) (Move.Count style) → length left ≡ length from →
        Counted s t style from left index r → Turns text limits forms opener lent left index parent K (Ok r)
    count_on {left} {style} r parent n e d =
        let g = n.leads in
        let tells = atom_tells t.kind n.class_is in
        let node : Node = record { kind = Nodes.atom_kind n.atom; at = span_of t; parent = index; role = Nodes.count; detail = Nodes.atom_detail n.atom; stretch = 1 } in
        let put : Put from left (index + 1 + s.nodes) node =
        told_put {e = count_entry t (index + 1 + s.nodes) index} {n = node}
        (record { kind = sym tells.kind_is; first = refl; end = refl; parent = refl; role = refl; detail = sym tells.detail_is; skip = refl }) d.stored in
        subst (λ (x : Turn). Turns text limits forms opener lent left index parent K (Ok x)) (sym d.turn_is) (
          g.to,
          leads_holds t h g
              (literal_on limits (level_of forms) text h.stands t k (ap plain n.class_is)
              (never_bad limits (level_of forms) text t k (ap may_be_bad (class_kind_lem t.kind n.class_is) ∙ count_kind n.atom n.is_count)) g.steps)
              e (omega (arith, h.count_is, length-append (children c index) (node ∷ [])))
              (written_more h.written h.length_is (written_node node (subst (λ (x : ℕ). Put from left (index + 1 + x) node) h.count_is put))),
        )

    -- the bracket's end
    pub close_on : {left : List ℕ} {kind : NodeKind} {detail : ℕ} {role : Role} (r : Turn) (parent : ℕ) → Does (level_of forms) c (seen t) (Move.Close kind detail role) →
        (d : Closed s t opener.first kind detail role from left index parent r) → Turns text limits forms opener lent left index parent K (Ok r)
    close_on {left} {kind} {detail} {role} r parent (m, u, g) d =
        let v = g.value in
        let members = before c index ++ roled (role_of role) (last c index) in
        let node : Node = record { kind = node_kind_of kind; at = over (open_of c) (span_of t); parent = parent; role = Nodes.root; detail = detail; stretch = 1 + length members } in
        let put : Put d.told left index node =
        told_put {e = close_entry t opener.first kind detail parent (index + (s.nodes + 1))} {n = node} (record {
          kind = refl;
          first = ap (λ (x : Span). x.first) h.open_is;
          end = refl;
          parent = refl;
          role = refl;
          detail = refl;
          skip = omega (arith, h.count_is, told_length c (role_of role) index);
        }) d.stored in
        subst (λ (x : Turn). Turns text limits forms opener lent left index parent K (Ok x)) (sym d.turn_is)
        (record {
          tree = v;
          depth = open_mark m.sign s.deep;
          stands = subst (λ (x : Stack). At limits (level_of forms) text (open_mark m.sign s.deep) t.end (have v x)) h.stack_is (sign_on limits (level_of forms) text h.stands t k m.sign m.class_is (λ x. not_arrow t (ap is_arrow m.class_is ∙ arrow_flat m.sign m.flat_is) x) g.steps);
          stops = λ x y z. other_names v g.shape_is;
          shape_is = g.shape_is;
          bare = λ x y. absurd (false≢true (ap is_bare y));
          count_is = omega (arith, h.count_is, told_length c (role_of role) index, ap (λ (ns : List Node). length ns) (g.members parent Nodes.root index));
          written = subst (λ (ns : List Node). Written lent left index ns) (sym (g.members parent Nodes.root index))
              (written_front node (role_written index c role h.written h.length_is d.role_is h.last_is u) (d.length_is ∙ h.length_is) put);
        })

    -- no group ends here
    pub group_never : Does (level_of forms) c (seen t) Move.Group → ⊥
    group_never g =
        clash (ap is_close_of g.class_is)
        (subst (λ (x : Config). opening x ≡ true → held x ≡ true → is_close_of (class_kind t.kind) ≡ false) g.config_is (λ p q. h.no_group p q t k) refl refl)

-- ---- a turn, by its move

module _ {limits : Limits} {opener t : Token.Token} {s : State.State} {index parent : ℕ} {taken : Move} {from left : List ℕ} where
  -- the promise, from what the move does
  taking : {r : Result Turn Refused} {move : Move} → taken ≡ move →
      ((text : List ℕ) (forms : Forms) (lent : List ℕ) (K : Stack) (c : Config) → Holds text limits forms opener lent from index K c s →
      Comes text s.at (Next.Token t) → Does (level_of forms) c (seen t) move → Turns text limits forms opener lent left index parent K r) → Taken limits opener s t taken from left index parent r
  taking e f = record { turns = λ text forms lent K c h k d g. f text forms lent K c h k (subst (λ (y : Move). Does (level_of forms) c (seen t) y) e d) }

  module _ {r : Result Turn Refused} where
    pub take_leading : {mode : Mode} {role : Role} → taken ≡ Move.To mode role → length left ≡ length from → Leading s t limits mode role from left r → Taken limits opener s t taken from left index parent r
    take_leading e x l = taking e (λ text forms lent K c h k d. leading_on text limits forms t h k r parent d x l)

    -- what takes no token
    pub take_none : ((f : Frame) × (taken ≡ Move.Value f)) ⊎ ((taken ≡ Move.Group) ⊎ (taken ≡ Move.Wrong)) → r ≡ Err (refused_at Refusal.WrongPlace t) → Taken limits opener s t taken from left index parent r
    take_none (inl x) q = record { turns = λ text forms lent K c h k d g. absurd (false≢true (sym (ap signs x.1) ∙ g)) }
    take_none (inr (inl e)) q = taking e (λ text forms lent K c h k d. absurd (group_never text limits forms t h k d))
    take_none (inr (inr e)) q = taking e (λ text forms lent K c h k d. wrong_here text limits forms t h k r left parent d q)

  -- moves that are never refused
  module _ {r : Turn} where
    pub take_tuple : taken ≡ Move.Tuple → length left ≡ length from → Tupled s t from left index r → Taken limits opener s t taken from left index parent (Ok r)
    take_tuple e x l = taking e (λ text forms lent K c h k d. tuple_on text limits forms t h k r parent d l x)

    pub take_count : {style : Style} → taken ≡ Move.Count style → length left ≡ length from → Counted s t style from left index r → Taken limits opener s t taken from left index parent (Ok r)
    take_count e x l = taking e (λ text forms lent K c h k d. count_on text limits forms t h k r parent d x l)

    pub take_shut : {style : Style} {role : Role} → taken ≡ Move.Shut style role → length left ≡ length from → Shuts s t style role from left r → Taken limits opener s t taken from left index parent (Ok r)
    take_shut e x l = taking e (λ text forms lent K c h k d. shut_on text limits forms t h k r parent d x l)

    pub take_close : {kind : NodeKind} {detail : ℕ} {role : Role} → taken ≡ Move.Close kind detail role → Closed s t opener.first kind detail role from left index parent r → Taken limits opener s t taken from left index parent (Ok r)
    take_close e l = taking e (λ text forms lent K c h k d. close_on text limits forms t h k r parent d l)

-- a move that writes nothing
module _ {limits : Limits} {opener t : Token.Token} {s : State.State} {index parent : ℕ} {taken : Move} {from : List ℕ} {r : Result Turn Refused} where
  pub take_deeper : {style : Style} → taken ≡ Move.Deeper style → Deepened s t limits style r → Taken limits opener s t taken from from index parent r
  take_deeper e l = taking e (λ text forms lent K c h k d. deeper_on text limits forms t h k r parent d l)
