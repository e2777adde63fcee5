-- `::` and a Text, once or more. Assumes nothing.
use mathlib.Core.Path.{◌≡◌, refl, sym, ap, subst, ◌∙◌}
use mathlib.Core.Logic.{⊎_elim}
use mathlib.Core.List.{List}
use mathlib.Core.Option.{Option, none, some}
use Prim.Native.Nat.{ℕ, ◌+◌, ◌≤◌, ◌<◌}
use native.Mathlib.Omega.{arith}
use lib.ListN.{length}
use Rattle.lexicon.specs.declared.Form.{Form}
use Rattle.lexicon.specs.declared.Kind.{Kind}
use Rattle.lexicon.specs.declared.Token as Token
use Rattle.lexicon.proofs.Pieces.{token_bounds}
use Rattle.grammar.specs.Tokens
use Rattle.grammar.specs.Tokens.{Span, Wording, wording, Class, class_kind}
use Rattle.grammar.specs.Tree
use Rattle.grammar.specs.Tree.{Names, one_name, more_names}
use Rattle.grammar.specs.Nodes as Nodes
use Rattle.grammar.specs.Nodes.{names_start, names_span}
use Rattle.grammar.proofs.Frames.{Stack, have, want_text, next_names}
use Rattle.grammar.proofs.Machine.{want_class, have_class, text_class}
use Rattle.reading.specs.declared.Limits.{Limits}
use Rattle.reading.proofs.At.{plain, kind_of, class_kind_lem, may_be_bad, never_bad, not_wanting, literal_on, none_here, end_here, not_here, bad_here}
use Rattle.moves.specs.declared.Forms.{Forms}
use Rattle.moves.specs.declared.Role.TheVariants as Role
use Rattle.moves.specs.declared.Shape.TheVariants as Shape
use Rattle.moves.specs.Means.{level_of}
use Rattle.table.specs.declared.Entry.{Entry}
use Rattle.table.specs.Over.{entry_words, Stored}
use Rattle.table.proofs.Written.{told_put, written_node}
use Rattle.std.specs.Prelude.{Result, Ok, Err}
use Rattle.reading.specs.declared.Refusal.{Refusal}
use Rattle.reading.specs.declared.Refused.{Refused}
use Rattle.reading.specs.Refusals.{number_of}
use Rattle.look.specs.Looks.{NotNext}
use Rattle.tree.specs.Readers.{span_of, Stands, Faulty, Asks, Nesting}
use Rattle.look.specs.Names.{ColonsHere, NameNext, NameHere, OtherHere, BadHere}

-- ---- spans

-- the first byte of the names, with `::` behind which a Text is wanted
abbrev start_of : Option Names → Span → ℕ
start_of none s = s.first
start_of (some n) s = (names_start n).first

first_of : (n : Names) → (names_start n).first ≡ (names_span n).first
first_of (one_name s w t) = refl
first_of (more_names n s w t) = refl

span_of_lem : (n : Option Names) (s : Span) (w : Wording) (t : Span) → names_span (next_names n s w t) ≡ record { first = start_of n s; end = t.end }
span_of_lem none s w t = refl
span_of_lem (some n) s w t = refl

-- ---- a Text's class

text_form : (w : Wording) → (f : Form) × (kind_of (Tokens.text w) ≡ Kind.Text f)
text_form (Tokens.spelled Tokens.quoted) = (Form.Quoted, refl)
text_form (Tokens.spelled Tokens.word) = (Form.Word, refl)
text_form (Tokens.spelled Tokens.code_point_of) = (Form.CodePoint, refl)
text_form (Tokens.head_word h) = (Form.HeadWord h, refl)

no_step : (c : Class) (n : Option Names) (o s : Span) (K : Stack) → ((w : Wording) → c ≡ Tokens.text w → ⊥) → text_class c n o s K ≡ none
no_step (Tokens.atom a) n o s K h = refl
no_step (Tokens.text w) n o s K h = absurd (h w refl)
no_step Tokens.names n o s K h = refl
no_step Tokens.round n o s K h = refl
no_step Tokens.curly n o s K h = refl
no_step Tokens.square n o s K h = refl
no_step (Tokens.mark m) n o s K h = refl
no_step Tokens.later n o s K h = refl

module _ (text : List ℕ) where
  pub name_bounds : {at end : ℕ} → NameHere text at end → (at < end) × (end ≤ length text)
  name_bounds n = let z = token_bounds text n.comes in (omega (arith, z.0, z.1, n.end_is), omega (arith, z.2, n.end_is))

  module _ (t : Token.Token) where
    -- ---- behind `::`; the first one is the token t

    record Wants (limits : Limits) (forms : Forms) (K : Stack) (d at : ℕ) : Type 0 where
      names : Option Names
      sign : Span
      stands : Stands text limits forms d at (want_text names sign K)
      start_is : start_of names sign ≡ t.first

    -- at the loop's head
    pub record Behind (at : ℕ) : Type 0 where
      pub low : t.end ≤ at
      pub high : at ≤ length text
      wants : (limits : Limits) (forms : Forms) (K : Stack) (d from : ℕ) → Asks text limits forms K d from t → t.kind ≡ Kind.TwoColons → Wants limits forms K d at

    pub behind_first_lem : t.end ≤ length text → Behind t.end
    behind_first_lem h =
        record {
          low = omega arith;
          high = h;
          wants = λ limits forms K d from a e.
              record {
                names = none;
                sign = span_of t;
                stands = literal_on limits (level_of forms) text a.stands t a.comes (ap (λ (k : Kind). plain (class_kind k)) e)
                    (never_bad limits (level_of forms) text t a.comes (ap may_be_bad e)) (ap (λ (k : Kind). want_class (level_of forms) (class_kind k) (span_of t) K) e);
                start_is = refl;
              };
        }

    -- ---- behind the Text

    record Has (limits : Limits) (forms : Forms) (K : Stack) (d end : ℕ) : Type 0 where
      names : Names
      stands : Stands text limits forms d end (have (Tree.plain (Tree.nesting names)) K)
      span_is : names_span names ≡ record { first = t.first; end = end }

    has : {at end : ℕ} → Behind at → NameHere text at end → (limits : Limits) (forms : Forms) (K : Stack) (d from : ℕ) → Asks text limits forms K d from t →
        t.kind ≡ Kind.TwoColons → Has limits forms K d end
    has {at} {end} b n limits forms K d from a e =
        let w = b.wants limits forms K d from a e in
        let u = n.word in
        let names = next_names w.names w.sign (wording n.form) (span_of u) in
        record {
          names = names;
          stands =
              subst (λ (x : ℕ). Stands text limits forms d x (have (Tree.plain (Tree.nesting names)) K)) (sym n.end_is)
              (literal_on limits (level_of forms) text w.stands u n.comes (ap (λ (k : Kind). plain (class_kind k)) n.word_is) n.good
              (ap (λ (k : Kind). text_class (class_kind k) w.names w.sign (span_of u) K) n.word_is));
          span_is = span_of_lem w.names w.sign (wording n.form) (span_of u) ∙ (λ i. record { first = w.start_is i; end = sym n.end_is i });
        }

    pub behind_next : {at end next : ℕ} → Behind at → NameHere text at end → ColonsHere text end next → Behind next × (at < next)
    behind_next {at} {end} {next} b n k =
        let y = name_bounds n in
        let z = token_bounds text k.comes in
        let u = k.sign in
        let far : at < next = omega (arith, y.0, z.0, z.1, k.end_is) in (
          record {
            low = omega (arith, b.low, far);
            high = omega (arith, z.2, k.end_is);
            wants = λ limits forms K d from a e.
                let w = has b n limits forms K d from a e in
                record {
                  names = some w.names;
                  sign = span_of u;
                  stands =
                      subst (λ (x : ℕ). Stands text limits forms d x (want_text (some w.names) (span_of u) K)) (sym k.end_is)
                      (literal_on limits (level_of forms) text w.stands u k.comes (ap (λ (x : Kind). plain (class_kind x)) k.sign_is)
                      (never_bad limits (level_of forms) text u k.comes (ap may_be_bad k.sign_is))
                      (ap (λ (x : Kind). have_class (level_of forms) (class_kind x) (Tree.plain (Tree.nesting w.names)) (span_of u) K) k.sign_is));
                  start_is = first_of w.names ∙ ap (λ (s : Span). s.first) w.span_is;
                };
          },
          far,
        )

    -- ---- the ends

    module _ (lent left : List ℕ) (index parent : ℕ) where
      -- the node of the names up to a place
      abbrev pub named : ℕ → Entry
      named end = record { kind = 8; first = t.first; end = end; parent = parent; role = Role.Root; detail = 0; skip = index + 1 }

      pub nesting_read : {from : List ℕ} {at end : ℕ} → t.first < t.end → Behind at → NameHere text at end → NotNext text Kind.TwoColons end →
          from ≡ lent → Stored from left index (entry_words (named end)) → Nesting text t lent left index parent (Ok (record { end = end; nodes = 1; shape = Shape.Name }))
      nesting_read {from} {at} {end} h b n stop same stored =
          let y = name_bounds n in
          record {
            sized = (omega (arith, h, b.low, y.0), omega (arith, b.low, y.0), y.1);
            outcome = λ limits forms K d at a e.
                let w = has b n limits forms K d at a e in
                let node : Nodes.Node = record { kind = Nodes.a_nesting; at = names_span w.names; parent = parent; role = Nodes.root; detail = 0; stretch = 1 } in
                record {
                  tree = Tree.plain (Tree.nesting w.names);
                  depth = d;
                  stands = w.stands;
                  stops = λ u k x. absurd (stop.none u k x);
                  shape_is = refl;
                  bare = λ g x. let z : ◌≡◌ {A = ℕ} 0 1 = cc in absurd (omega arith);
                  count_is = refl;
                  written =
                      written_node node
                      (told_put {e = named end} {n = node}
                      (record {
                        kind = refl;
                        first = ap (λ (s : Span). s.first) w.span_is;
                        end = ap (λ (s : Span). s.end) w.span_is;
                        parent = refl;
                        role = refl;
                        detail = refl;
                        skip = refl;
                      }) (subst (λ (x : List ℕ). Stored x left index (entry_words (named end))) same stored));
                };
          }

      pub nesting_refused : {at : ℕ} {e : Refused} {r : Result ℕ Refused} → Behind at → NameNext text at r → r ≡ Err e → Nesting text t lent left index parent (Err e)
      nesting_refused {at} {e} {r} b n q =
          record {
            sized = tt;
            outcome = λ limits forms K d from a x. refused limits forms K d (b.wants limits forms K d from a x);
          }
        where
          numbered : (limits : Limits) (forms : Forms) {m : Refusal} → e.refusal ≡ m → Faulty text limits forms (number_of m) e.place → Faulty text limits forms (number_of e.refusal) e.place
          numbered limits forms i f = subst (λ (x : Refusal). Faulty text limits forms (number_of x) e.place) (sym i) f

          other : (limits : Limits) (forms : Forms) (K : Stack) (d : ℕ) → Wants limits forms K d at → OtherHere text at e.place → Faulty text limits forms 6 e.place
          other limits forms K d w o =
              let u = o.token in
              subst (λ (x : ℕ). Faulty text limits forms 6 x) (sym o.place_is)
              (not_here limits (level_of forms) text w.stands u o.comes (not_wanting refl)
              (no_step (class_kind u.kind) w.names w.sign (span_of u) K
              (λ x c. let f = text_form x in o.no_text f.0 (class_kind_lem u.kind c ∙ f.1))))

          bad : (limits : Limits) (forms : Forms) (K : Stack) (d : ℕ) → Wants limits forms K d at → BadHere text at e.place → Faulty text limits forms 5 e.place
          bad limits forms K d w o =
              let u = o.word in
              bad_here limits (level_of forms) text w.stands u o.comes (ap (λ (k : Kind). plain (class_kind k)) o.word_is) o.bad o.placed
              (ap (λ (k : Kind). text_class (class_kind k) w.names w.sign (span_of u) K) o.word_is)

          refused : (limits : Limits) (forms : Forms) (K : Stack) (d : ℕ) → Wants limits forms K d at → Faulty text limits forms (number_of e.refusal) e.place
          refused limits forms K d w =
              ⊎_elim (λ x. numbered limits forms x.0 (none_here limits (level_of forms) text w.stands e.place x.1))
              (λ y. ⊎_elim (λ x. numbered limits forms x.0 (end_here limits (level_of forms) text w.stands e.place x.1 refl))
              (λ z. ⊎_elim (λ x. numbered limits forms x.0 (other limits forms K d w x.1)) (λ x. numbered limits forms x.0 (bad limits forms K d w x.1)) z) y)
              (subst (λ (x : Result ℕ Refused). NameNext text at x) q n)
