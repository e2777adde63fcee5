-- The readers that call each other: what each makes of the answers below it. Assumes nothing.
use mathlib.Core.Path.{◌≡◌, refl, sym, ap, subst, ◌∙◌}
use mathlib.Core.Bool.{true, false, false≢true}
use mathlib.Core.Logic.{inl, inr}
use mathlib.Core.List.{List, [], ◌∷◌, append-nil}
use Prim.Native.Nat.{ℕ, suc, ◌+◌, ◌-◌, ◌*◌, ◌≤◌, ◌<◌}
use native.Mathlib.Omega.{arith}
use lib.ListN.{length, length-append}
use Rattle.rules.proofs.Bools.{clash}
use Rattle.lexicon.specs.declared.Head.{Head}
use Rattle.lexicon.specs.declared.Token as Token
use Rattle.lexicon.specs.declared.Next.TheVariants as Next
use Rattle.lexicon.specs.Token.{Comes}
use Rattle.lexicon.proofs.Pieces.{token_bounds}
use Rattle.grammar.specs.Tokens
use Rattle.grammar.specs.Tokens.{Mark, Class, class_kind}
use Rattle.grammar.specs.Tree
use Rattle.grammar.specs.Tree.{Value, Names}
use Rattle.grammar.specs.Nodes as Nodes
use Rattle.grammar.specs.Nodes.{Node, nodes}
use Rattle.grammar.proofs.Frames as Frames
use Rattle.grammar.proofs.Frames.{Config, Stack, want, have}
use Rattle.grammar.proofs.Machine.{have_class}
use Rattle.grammar.proofs.NodeLaws.{some_node, same_size}
use Rattle.reading.specs.declared.Limits.{Limits}
use Rattle.reading.specs.Tokens.{seen, open_mark}
use Rattle.reading.proofs.Rows.{pick}
use Rattle.reading.proofs.Decide.{whole, is_arrow, not_arrow}
use Rattle.reading.proofs.At.{none_here, end_here, sign_on}
use Rattle.reading.proofs.Depth.{depth_is}
use Rattle.moves.specs.declared.Forms.{Forms}
use Rattle.moves.specs.declared.Shape.{Shape}
use Rattle.moves.specs.declared.RoundFrame.TheVariants as Round
use Rattle.moves.specs.declared.Frame.{Frame}
use Rattle.moves.specs.declared.Mode.{Mode}
use Rattle.moves.specs.declared.Move.{Move}
use Rattle.moves.specs.Means.{level_of, given, shape_of, frame_of, mode_of, inside, framed}
use Rattle.moves.specs.Effects.{head_bare, nested, opening_frame, held, Does, Begins, Asked}
use Rattle.moves.specs.Moves.{Moves}
use Rattle.table.specs.Over.{Written, Raised, Reserved}
use Rattle.table.proofs.Written.{written_nothing, written_more}
use Rattle.table.proofs.Raised.{raised_value, raised_length, reserved_written, reserved_length}
use Rattle.look.specs.declared.answer.Read.{Read}
use Rattle.std.specs.Prelude.{Result, Ok, Err}
use Rattle.reading.specs.declared.Refused.{Refused}
use Rattle.reading.specs.Refusals.{number_of}
use Rattle.begin.specs.declared.Begin.{Begin}
use Rattle.tree.specs.declared.bracket.State as State
use Rattle.tree.specs.declared.start.Start as Start
use Rattle.tree.specs.declared.bracket.Turn.{Turn}
use Rattle.look.specs.Looks.{Gets, NoHead}
use Rattle.look.proofs.Looking.{got_token}
use Rattle.begin.specs.Signs.{no_mark, is_close_of}
use Rattle.begin.specs.Begins.{Begins as Starts}
use Rattle.begin.proofs.Signs.{close_class_lem}
use Rattle.tree.specs.Readers.{span_of, opened, Fit, Within, Sized, Inner, Inside, Turned, Born, Stands, Faulty, Asks, IsValue, Outcome, Reads, Holds, Turns, Bore, Member, Bracketed, Rounded, entering, signs, Ends, Alone, Literal, Nesting, Taken}
use Rattle.tree.specs.Turning.{Narrow, Behind}
use Rattle.tree.proofs.Beginning.{From, Entered, Begun, begins_so}
use Rattle.tree.proofs.Turns.{is_bare}

-- ---- configurations

-- inside a bracket the end is in the wrong place
inside_open : (c : Config) → inside c ≡ true → whole c ≡ false
inside_open (Frames.want K) e = refl
inside_open (Frames.have v []) e = absurd (false≢true e)
inside_open (Frames.have v (f ∷ K)) e = refl
inside_open (Frames.want_text n o K) e = refl
inside_open (Frames.want_curly o h s k K) e = refl
inside_open (Frames.want_count c f v k K) e = refl
inside_open (Frames.have_item c f i K) e = refl
inside_open (Frames.want_close c K) e = refl

-- behind a head no value was just read
unheld_head : (c : Config) → held c ≡ false → inside c ≡ true → head_bare c ≡ false
unheld_head (Frames.want K) e i = refl
unheld_head (Frames.have v []) e i = absurd (false≢true i)
unheld_head (Frames.have v (f ∷ K)) e i = absurd (false≢true (sym e))
unheld_head (Frames.want_text n o K) e i = refl
unheld_head (Frames.want_curly o h s k K) e i = refl
unheld_head (Frames.want_count c f v k K) e i = refl
unheld_head (Frames.have_item c f t K) e i = refl
unheld_head (Frames.want_close c K) e i = refl

unheld_names : (c : Config) → held c ≡ false → inside c ≡ true → nested c ≡ false
unheld_names (Frames.want K) e i = refl
unheld_names (Frames.have v []) e i = absurd (false≢true i)
unheld_names (Frames.have v (f ∷ K)) e i = absurd (false≢true (sym e))
unheld_names (Frames.want_text n o K) e i = refl
unheld_names (Frames.want_curly o h s k K) e i = refl
unheld_names (Frames.want_count c f v k K) e i = refl
unheld_names (Frames.have_item c f t K) e i = refl
unheld_names (Frames.want_close c K) e i = refl

-- a class that is no sign
no_mark_lem : (k : Class) → ((m : Mark) → k ≡ Tokens.mark m → ⊥) → no_mark k ≡ true
no_mark_lem (Tokens.atom a) f = refl
no_mark_lem (Tokens.text w) f = refl
no_mark_lem Tokens.names f = refl
no_mark_lem Tokens.round f = refl
no_mark_lem Tokens.curly f = refl
no_mark_lem Tokens.square f = refl
no_mark_lem (Tokens.mark m) f = absurd (f m refl)
no_mark_lem Tokens.later f = refl

-- a head word directly behind `(`
bare_first : (v : Value) (f : Frames.Frame) (K : Stack) → head_bare (have v (f ∷ K)) ≡ true → (opening_frame f ≡ true) × ((h : Head) × (shape_of v ≡ Shape.Bare h))
bare_first (Tree.plain p) f K e = absurd (false≢true e)
bare_first (Tree.bare h s) (Frames.in_round (Frames.opened o)) K e = (refl, (h, refl))
bare_first (Tree.bare h s) (Frames.in_round (Frames.pair_colon o p k)) K e = absurd (false≢true e)
bare_first (Tree.bare h s) (Frames.in_round (Frames.pair_arrow o v a k)) K e = absurd (false≢true e)
bare_first (Tree.bare h s) (Frames.in_round (Frames.in_tuple o f)) K e = absurd (false≢true e)
bare_first (Tree.bare h s) (Frames.in_round (Frames.attribute_name o f n k)) K e = absurd (false≢true e)
bare_first (Tree.bare h s) (Frames.Frame.in_curly f) K e = absurd (false≢true e)
bare_first (Tree.bare h s) (Frames.in_square f) K e = absurd (false≢true e)

want_same_lem : {a b : Frame} → Mode.Want a ≡ Mode.Want b → a ≡ b
want_same_lem e = cc

-- a move that begins no value, as the code tells it
pub signs_told : (m : Move) → ((f : Frame) → m ≡ Move.Value f → ⊥) → signs m ≡ true
signs_told (Move.Value f) x = absurd (x f refl)
signs_told (Move.To m r) x = refl
signs_told Move.Tuple x = refl
signs_told (Move.Count y) x = refl
signs_told (Move.Deeper y) x = refl
signs_told (Move.Shut y r) x = refl
signs_told (Move.Close k d r) x = refl
signs_told Move.Group x = refl
signs_told Move.Wrong x = refl

mark_not : (k : Class) (m : Mark) → no_mark k ≡ true → k ≡ Tokens.mark m → ⊥
mark_not k m e q = false≢true (sym (ap no_mark q) ∙ e)

-- behind the first value of a bracket, written as if in a group and then moved
abbrev pub behind_first : ℕ → ℕ → ℕ → ℕ → Shape → State.State
behind_first d index end n shape = record { mode = Mode.Have (Frame.Round Round.Opened) shape; at = end; deep = d + 1; nodes = n; last = index + 1 }

module _ (text : List ℕ) (limits : Limits) (forms : Forms) where
  -- what the token before a value leaves open is open behind it
  same_depth : {d e p q : ℕ} {v : Value} {K : Stack} → Stands text limits forms d p (want K) → Stands text limits forms e q (have v K) → e ≡ d
  same_depth a b =
      sym b.deep ∙ depth_is (level_of forms) b.tokens b.stands.reached ∙ sym (depth_is (level_of forms) a.tokens a.stands.reached) ∙ a.deep

  pub value_sized : {d index parent : ℕ} {v : Read} {t : Token.Token} {r : Result Read Refused} {lent left : List ℕ} → Reads text limits forms d t lent left index parent r → r ≡ Ok v →
      (t.first + v.nodes ≤ v.end) × (t.end ≤ v.end) × (v.end ≤ length text)
  value_sized {t = t} x q = subst (λ (w : Result Read Refused). Sized text t w) q x.sized

  -- where a token must come, none does
  pub refused_here : {d at : ℕ} {c : Config} {g : Result Token.Token Refused} {e : Refused} → Stands text limits forms d at c → whole c ≡ false → Gets text at g → g ≡ Err e → Faulty text limits forms (number_of e.refusal) e.place
  refused_here {d} {at} {c} {g} {e} a w x i = go (subst (λ (y : Result Token.Token Refused). Gets text at y) i x)
    where
      go : Gets text at (Err e) → Faulty text limits forms (number_of e.refusal) e.place
      go (inl (y, k)) = subst (λ (z : ℕ). Faulty text limits forms z e.place) (sym (ap number_of y)) (none_here limits (level_of forms) text a e.place k)
      go (inr (y, k)) = subst (λ (z : ℕ). Faulty text limits forms z e.place) (sym (ap number_of y)) (end_here limits (level_of forms) text a e.place k w)

  -- ---- a value

  module _ (d : ℕ) (t : Token.Token) (lent left : List ℕ) (index parent : ℕ) (f : Fit text t index parent) where
    module _ (b : Result Begin Refused) (x : Starts text limits forms d t b) where
      begun_as : (z : Result Begin Refused) → b ≡ z → (K : Stack) (at : ℕ) → Asks text limits forms K d at t → Begun text limits forms K d t z
      begun_as z e K at a = subst (λ (y : Result Begin Refused). Begun text limits forms K d t y) e ((begins_so text limits forms d t x).begun K at a)

      alone_sized : (r : Result Read Refused) → Alone t r → Sized text t r
      alone_sized (Ok v) (y, z) = (omega (arith, y, z, f.some_byte), omega (arith, z), omega (arith, z, f.inside_text))
      alone_sized (Err e) y = tt

      pub value_leaf : (r : Result Read Refused) → b ≡ Ok Begin.Literal → Literal text t lent left index parent r → Reads text limits forms d t lent left index parent r
      value_leaf r e l = record { sized = alone_sized r l.sized; outcome = λ K at a. l.outcome limits forms K d at a (begun_as (Ok Begin.Literal) e K at a) }

      pub value_names : (r : Result Read Refused) → b ≡ Ok Begin.Names → Nesting text t lent left index parent r → Reads text limits forms d t lent left index parent r
      value_names r e l = record { sized = l.sized; outcome = λ K at a. l.outcome limits forms K d at a (begun_as (Ok Begin.Names) e K at a) }

      pub value_round : (g : Result Token.Token Refused) (r : Result Read Refused) → b ≡ Ok (Begin.Round g) → Rounded text limits forms d t lent left index parent r → Reads text limits forms d t lent left index parent r
      value_round g r e l = record { sized = l.sized; outcome = λ K at a. let z = begun_as (Ok (Begin.Round g)) e K at a in l.outcome K z.0 z.1 }

      pub value_refused : {e : Refused} → b ≡ Err e → Reads text limits forms d t lent left index parent (Err e)
      value_refused {e} i = record { sized = tt; outcome = λ K at a. begun_as (Err e) i K at a }

      entered_holds : {K : Stack} {mode : Mode} {at : ℕ} (g : Entered text limits forms K d t mode at) → Holds text limits forms t lent lent index K g.config (entering mode at d index)
      entered_holds {K} {mode} {at} g =
          record {
            stands = subst (λ (y : ℕ). Stands text limits forms y at g.config) (omega arith) g.stands;
            within = g.within;
            mode_is = g.mode_is;
            stack_is = g.stack_is;
            open_is = g.open_is;
            no_head = λ y. absurd (clash y (unheld_head g.config g.no_value g.within));
            no_names = λ y. absurd (clash y (unheld_names g.config g.no_value g.within));
            unread = λ y. absurd (clash y g.no_first);
            no_group = λ y. absurd (clash y g.no_first);
            length_is = refl;
            count_is = ap (λ (ns : List Node). length ns) (sym (g.no_member index));
            last_is = λ y. absurd (clash y g.no_value);
            written = subst (λ (ns : List Node). Written lent lent (index + 1) ns) (sym (g.no_member index)) written_nothing;
          }

      pub value_bracket : {mode : Mode} {at : ℕ} (s : State.State) (r : Result Read Refused) → b ≡ Ok (Begin.Bracket mode at) → s ≡ entering mode at d index → Bracketed text limits forms t s lent left index parent r →
          Reads text limits forms d t lent left index parent r
      value_bracket {mode} {at} s r e i l =
          record {
            sized = l.sized;
            outcome = λ K p a.
                let g = begun_as (Ok (Begin.Bracket mode at)) e K p a in
                l.outcome lent K g.config (subst (λ (x : State.State). Holds text limits forms t lent lent index K g.config x) (sym i) (entered_holds g));
          }

  -- ---- `(`

  -- the bracket's own node takes the slot that was left to it
  reserved_outcome : (K : Stack) (t : Token.Token) {lent spare : List ℕ} (left : List ℕ) {index : ℕ} (parent : ℕ) (z : Result Read Refused) → Reserved lent spare index →
      Outcome text limits forms K t spare left index parent z → Outcome text limits forms K t lent left index parent z
  reserved_outcome K t left {index} parent (Ok v) r o =
      record {
        tree = o.tree;
        depth = o.depth;
        stands = o.stands;
        stops = o.stops;
        shape_is = o.shape_is;
        bare = o.bare;
        count_is = o.count_is;
        written = reserved_written r (some_node o.tree parent Nodes.root index) o.written;
      }
  reserved_outcome K t left parent (Err e) r o = o

  module _ (d : ℕ) (t : Token.Token) (lent : List ℕ) (index parent : ℕ) where
    pub round_missing : {e : Refused} {g : Result Token.Token Refused} {left : List ℕ} → Gets text t.end g → g ≡ Err e → Rounded text limits forms d t lent left index parent (Err e)
    round_missing x i = record { sized = tt; outcome = λ K a n. refused_here a refl x i }

    opened_holds : {K : Stack} {u : Token.Token} → Comes text t.end (Next.Token u) → no_mark (class_kind u.kind) ≡ false →
        Stands text limits forms (suc d) t.end (want (opened t K)) →
        Holds text limits forms t lent lent index K (want (opened t K)) (entering (Mode.Want (Frame.Round Round.Opened)) t.end d index)
    opened_holds {K} {u} k m a =
        record {
          stands = subst (λ (y : ℕ). Stands text limits forms y t.end (want (opened t K))) (omega arith) a;
          within = refl;
          mode_is = refl;
          stack_is = refl;
          open_is = refl;
          no_head = λ y. absurd (false≢true y);
          no_names = λ y. absurd (false≢true y);
          unread = λ y z w k'. ap (λ (x : Token.Token). no_mark (class_kind x.kind)) (pick text k' k) ∙ m;
          no_group = λ y z. absurd (false≢true z);
          length_is = refl;
          count_is = refl;
          last_is = λ y. absurd (false≢true y);
          written = written_nothing;
        }

    -- no value begins behind it
    pub round_bracket : {u : Token.Token} {left : List ℕ} (s : State.State) (r : Result Read Refused) → Comes text t.end (Next.Token u) → no_mark (class_kind u.kind) ≡ false →
        s ≡ entering (Mode.Want (Frame.Round Round.Opened)) t.end d index → Bracketed text limits forms t s lent left index parent r → Rounded text limits forms d t lent left index parent r
    round_bracket s r k m i l =
        record {
          sized = l.sized;
          outcome = λ K a n.
              l.outcome lent K (want (opened t K))
              (subst (λ (x : State.State). Holds text limits forms t lent lent index K (want (opened t K)) x) (sym i) (opened_holds k m a));
        }

    -- a value begins behind it
    module _ {u : Token.Token} {mid : List ℕ} (k : Comes text t.end (Next.Token u)) (m : no_mark (class_kind u.kind) ≡ true) (r : Result Read Refused)
        (y : Reads text limits forms (d + 1) u lent mid index parent r) where
      first_read : (z : Result Read Refused) → r ≡ z → (K : Stack) → Stands text limits forms (suc d) t.end (want (opened t K)) → Outcome text limits forms (opened t K) u lent mid index parent z
      first_read z q K a =
          subst (λ (w : Result Read Refused). Outcome text limits forms (opened t K) u lent mid index parent w) q
          (y.outcome (opened t K) t.end
          (record {
            stands = subst (λ (x : ℕ). Stands text limits forms x t.end (want (opened t K))) (omega arith) a;
            comes = k;
            no_sign = λ x e. absurd (mark_not (class_kind u.kind) x m e);
          }))

      pub first_refused : {e : Refused} {left : List ℕ} → r ≡ Err e → Rounded text limits forms d t lent left index parent r
      first_refused {e} {left} q =
          subst (Rounded text limits forms d t lent left index parent) (sym q) (record { sized = tt; outcome = λ K a i. first_read (Err e) q K a })

      module _ {f : Read} (q : r ≡ Ok f) {h : Result Token.Token Refused} (x : Gets text f.end h) where
        pub first_open : {e : Refused} {left : List ℕ} → h ≡ Err e → Rounded text limits forms d t lent left index parent (Err e)
        first_open e = record { sized = tt; outcome = λ K a i. refused_here (first_read (Ok f) q K a).stands refl x e }

        -- and `)` behind the value: a group
        pub first_group : {w : Token.Token} → t.first < t.end → h ≡ Ok w → is_close_of (class_kind w.kind) ≡ true → Rounded text limits forms d t lent mid index parent (Ok (record { end = w.end; nodes = f.nodes; shape = Shape.Other }))
        first_group {w} z e c =
            let k' = got_token text f.end e x in
            let j = close_class_lem (class_kind w.kind) c in
            record {
              sized =
                  let o = token_bounds text k in
                  let p = token_bounds text k' in
                  let v = value_sized y q in
                  (omega (arith, z, o.0, v.0, p.0, p.1), omega (arith, o.0, o.1, v.1, p.0, p.1), p.2);
              outcome = λ K a i.
                  let v = first_read (Ok f) q K a in
                  record {
                    tree = Tree.plain (Tree.group (span_of t) v.tree (span_of w));
                    depth = open_mark Tokens.round_close v.depth;
                    stands = sign_on limits (level_of forms) text v.stands w k' Tokens.round_close j (λ p. not_arrow w (ap is_arrow j) p) (ap (λ (p : Class). have_class (level_of forms) p v.tree (span_of w) (opened t K)) j);
                    stops = λ p p' p''. refl;
                    shape_is = refl;
                    bare = λ p p'. absurd (false≢true (ap is_bare p'));
                    count_is = v.count_is;
                    written = v.written;
                  };
            }

        -- no `)` behind it: the value is a bracket's first
        first_holds : {K : Stack} {w : Token.Token} {spare up : List ℕ} → Stands text limits forms (suc d) t.end (want (opened t K)) → NoHead text t.end →
            h ≡ Ok w → is_close_of (class_kind w.kind) ≡ false → (v : IsValue text limits forms (opened t K) u f.end f.nodes f.shape lent mid index parent) →
            length up ≡ length spare → Written spare up (index + 1) (nodes v.tree index Nodes.root (index + 1)) →
            Holds text limits forms t spare up index K (have v.tree (opened t K)) (behind_first d index f.end f.nodes f.shape)
        first_holds {K} {w} {spare} {up} a nh e c v len wr =
            record {
              stands = subst (λ (z : ℕ). Stands text limits forms z f.end (have v.tree (opened t K))) (same_depth a v.stands ∙ omega arith) v.stands;
              within = refl;
              mode_is = ap (λ (z : Shape). Mode.Have (Frame.Round Round.Opened) z) v.shape_is;
              stack_is = refl;
              open_is = refl;
              no_head = λ b. record {
                none = λ p k' z.
                    let o = bare_first v.tree (Frames.in_round (Frames.opened (span_of t))) K b in
                    let j = v.bare o.1.0 (sym v.shape_is ∙ o.1.1) in
                    nh.none o.1.0 p.end
                    (record { word = u; comes = k; word_is = j.0; sign = p; then = subst (λ (i : ℕ). Comes text i (Next.Token p)) j.1 k'; sign_is = z; end_is = refl });
              };
              no_names = λ b. record { none = λ p k' z. clash b (ap given (v.stops p k' z)) };
              unread = λ b b'. absurd (false≢true (sym b'));
              no_group = λ b b' p k'. ap (λ (z : Token.Token). is_close_of (class_kind z.kind)) (pick text k' (got_token text f.end e x)) ∙ c;
              length_is = len;
              count_is = v.count_is ∙ same_size v.tree parent index Nodes.root Nodes.root index (index + 1 + 0);
              last_is = λ b. omega arith;
              written = subst (λ (i : ℕ). Written spare up (index + 1) (nodes v.tree index Nodes.root i)) (omega arith) wr;
            }

        pub first_bracket : {w : Token.Token} {up left : List ℕ} (z : Result Read Refused) → Fit text t index parent → h ≡ Ok w → is_close_of (class_kind w.kind) ≡ false → length mid ≡ length lent →
            Raised mid up index f.nodes → Bracketed text limits forms t (behind_first d index f.end f.nodes f.shape) up left index parent z → Rounded text limits forms d t lent left index parent z
        first_bracket {w} {up} {left} z i e c len raised l =
            record {
              sized = l.sized;
              outcome = λ K a nh.
                  let v = first_read (Ok f) q K a in
                  let o = token_bounds text k in
                  let p = value_sized y q in
                  let s = raised_value v.tree v.written len (subst (λ (j : ℕ). Raised mid up index j) v.count_is raised) i.parent_fits
                  (omega (arith, sym v.count_is, i.index_fits, i.some_byte, i.short, o.0, p.0, p.2)) in
                  reserved_outcome K t left parent z s.1 (l.outcome s.0 K (have v.tree (opened t K)) (first_holds a nh e c v (raised_length raised ∙ len ∙ sym (reserved_length s.1)) s.2));
            }

  -- ---- a value in a bracket

  -- behind it the bracket goes on
  child_holds : {opener : Token.Token} {s : State.State} {lent from left : List ℕ} {index end m : ℕ} {K : Stack} {frame : Frame} {shape : Shape} {top : Frames.Frame} {S : Stack} (t : Token.Token) →
      (h : Holds text limits forms opener lent from index K (want (top ∷ S)) s) → Comes text s.at (Next.Token t) → ((y : Mark) → class_kind t.kind ≡ Tokens.mark y → ⊥) →
      frame_of top ≡ frame → (v : IsValue text limits forms (top ∷ S) t end m shape from left (index + 1 + s.nodes) index) → length left ≡ length from →
      Holds text limits forms opener lent left index K (have v.tree (top ∷ S)) (record { mode = Mode.Have frame shape; at = end; deep = s.deep; nodes = s.nodes + m; last = index + 1 + s.nodes })
  child_holds {opener} {s} {lent} {from} {left} {index} {end} {m} {K} {frame} {shape} {top} {S} t h k n fr v len =
      record {
        stands = subst (λ (d : ℕ). Stands text limits forms d end (have v.tree (top ∷ S))) (same_depth h.stands v.stands) v.stands;
        within = refl;
        mode_is = λ i. Mode.Have (fr i) (v.shape_is i);
        stack_is = h.stack_is;
        open_is = h.open_is;
        no_head = λ e. absurd (not_first (bare_first v.tree top S e).0);
        no_names = λ e. record { none = λ u k' q. clash e (ap given (v.stops u k' q)) };
        unread = λ e e'. absurd (false≢true (sym e'));
        no_group = λ e. absurd (not_first e);
        length_is = len ∙ h.length_is;
        count_is = omega (arith, size, v.count_is ∙ ap (λ (x : ℕ). length (nodes v.tree index Nodes.root (index + 1 + x))) size, length-append (framed top index) (nodes v.tree index Nodes.root (index + 1 + length (framed top index))));
        last_is = λ e. ap (λ (x : ℕ). index + 1 + x) size;
        written = written_more (subst (λ (ns : List Node). Written lent from (index + 1) ns) (append-nil (framed top index)) h.written) h.length_is
            (subst (λ (x : ℕ). Written from left (index + 1 + x) (nodes v.tree index Nodes.root (index + 1 + x))) size v.written);
      }
    where
      -- the first value behind `(` is read elsewhere
      not_first : opening_frame top ≡ true → ⊥
      not_first e = clash (no_mark_lem (class_kind t.kind) n) (h.unread e refl t k)

      size : s.nodes ≡ length (framed top index)
      size = h.count_is ∙ ap (λ (ns : List Node). length ns) (append-nil (framed top index))

  module _ {s : State.State} {t : Token.Token} {frame : Frame} {from left : List ℕ} {index : ℕ} {r : Result Read Refused} (x : Reads text limits forms s.deep t from left (index + 1 + s.nodes) index r) where
    child_read : {opener : Token.Token} {lent : List ℕ} {K : Stack} {c : Config} (z : Result Read Refused) → r ≡ z → Holds text limits forms opener lent from index K c s → Comes text s.at (Next.Token t) →
        (g : Begins (level_of forms) c (seen t) frame) → Outcome text limits forms (g.top ∷ g.stack) t from left (index + 1 + s.nodes) index z
    child_read {opener} {lent} {K} {c} z q h k g =
        subst (λ (w : Result Read Refused). Outcome text limits forms (g.top ∷ g.stack) t from left (index + 1 + s.nodes) index w) q
        (x.outcome (g.top ∷ g.stack) s.at
        (record { stands = subst (λ (w : Config). Stands text limits forms s.deep s.at w) g.config_is h.stands; comes = k; no_sign = λ m e. absurd (g.no_sign m e) }))

    pub child_refused : {e : Refused} → r ≡ Err e → Bore text limits forms s t frame from left index (Err e)
    child_refused {e} q = record { born = tt; turns = λ opener parent lent K c h k g. child_read (Err e) q h k g }

    pub child_on : {m : Read} → r ≡ Ok m → length left ≡ length from →
        Bore text limits forms s t frame from left index (Ok (Turn.On (record { mode = Mode.Have frame m.shape; at = m.end; deep = s.deep; nodes = s.nodes + m.nodes; last = index + 1 + s.nodes })))
    child_on {m} q len =
        let z = value_sized x q in
        record {
          born = (omega (arith, z.0), refl, z.1, z.2);
          turns = λ opener parent lent K c h k g.
              let v = child_read (Ok m) q h k g in (
                have v.tree (g.top ∷ g.stack),
                child_holds t (subst (λ (w : Config). Holds text limits forms opener lent from index K w s) g.config_is h) k g.no_sign
                    (want_same_lem (sym (ap mode_of g.config_is) ∙ g.mode_is)) v len,
              );
        }

  -- ---- one turn

  asked_of : {opener t : Token.Token} {s : State.State} {lent from : List ℕ} {index : ℕ} {K : Stack} {c : Config} → Holds text limits forms opener lent from index K c s →
      Comes text s.at (Next.Token t) → Asked c t.kind
  asked_of {t = t} h k = record { within = h.within; no_head = λ e q. (h.no_head e).none t k q; no_names = λ e q. (h.no_names e).none t k q }

  -- the code's move is what the machine does
  does_so : {opener t : Token.Token} {s : State.State} {lent from : List ℕ} {index : ℕ} {K : Stack} {c : Config} {taken : Move} → Holds text limits forms opener lent from index K c s →
      Comes text s.at (Next.Token t) → Moves forms s.mode t.kind taken → Does (level_of forms) c (seen t) taken
  does_so {t = t} {c = c} h k m = m.does c h.mode_is (asked_of h k) (span_of t)

  module _ {opener t : Token.Token} {s : State.State} {index parent : ℕ} (i : Inner text opener s index parent) (k : Comes text s.at (Next.Token t)) where
    ends_turned : (z : Result Turn Refused) → Ends opener t z → Turned text opener s z
    ends_turned (Ok (Turn.On n)) (a, d, q) = let y = token_bounds text k in (a, d, omega (arith, q, y.0, y.1), omega (arith, q, y.2))
    ends_turned (Ok (Turn.Ended v)) (a, q) = let y = token_bounds text k in (a, omega (arith, q, y.0, y.1, i.after), omega (arith, q, y.2))
    ends_turned (Err e) z = tt

    born_turned : (z : Result Turn Refused) → Born text s t z → Turned text opener s z
    born_turned (Ok (Turn.On n)) (a, d, q, l) =
        let y = token_bounds text k in (omega (arith, a, y.0, i.after), omega (arith, d, q, y.0, y.1, i.deep_fits), omega (arith, q, y.0, y.1), l)
    born_turned (Ok (Turn.Ended v)) z = absurd z
    born_turned (Err e) z = tt

  module _ {opener : Token.Token} {s : State.State} {from left : List ℕ} {index parent : ℕ} (i : Inner text opener s index parent) {g : Result Token.Token Refused} (x : Gets text s.at g) where
    pub member_missing : {e : Refused} → g ≡ Err e → Member text limits forms opener s from left index parent (Err e)
    member_missing e = record { turned = tt; turns = λ lent K c h. refused_here h.stands (inside_open c h.within) x e }

    module _ {t : Token.Token} {taken : Move} (e : g ≡ Ok t) (m : Moves forms s.mode t.kind taken) (r : Result Turn Refused) where
      pub member_taken : Ends opener t r → Taken limits opener s t taken from left index parent r → signs taken ≡ true → Member text limits forms opener s from left index parent r
      member_taken z y q =
          let k = got_token text s.at e x in
          record { turned = ends_turned i k r z; turns = λ lent K c h. y.turns text forms lent K c h k (does_so h k m) q }

      pub member_child : {frame : Frame} → taken ≡ Move.Value frame → Bore text limits forms s t frame from left index r → Member text limits forms opener s from left index parent r
      member_child {frame} q y =
          let k = got_token text s.at e x in
          record {
            turned = born_turned i k r y.born;
            turns = λ lent K c h. y.turns opener parent lent K c h k (subst (λ (w : Move). Does (level_of forms) c (seen t) w) q (does_so h k m));
          }

-- ---- numbers

-- what a start says of itself, and what is asked of it in the text
pub fit_of : {text : List ℕ} {s : Start.Start} → Within text s → Fit text s.token s.index s.parent
fit_of {s = s} w = record { short = w.short; some_byte = s.some_byte; inside_text = w.inside_text; index_fits = s.index_fits; parent_fits = s.parent_fits }

pub within_of : {text : List ℕ} {s : Start.Start} → Fit text s.token s.index s.parent → Within text s
within_of f = record { short = f.short; inside_text = f.inside_text }

pub inner_of : {text : List ℕ} {s : Start.Start} {x : State.State} → Inside text s x → Inner text s.token x s.index s.parent
inner_of i = record { fit = fit_of i.within; after = i.after; deep_fits = i.deep_fits; inside_text = i.inside_text }

pub inside_of : {text : List ℕ} {s : Start.Start} {x : State.State} → Inner text s.token x s.index s.parent → Inside text s x
inside_of i = record { within = within_of i.fit; after = i.after; deep_fits = i.deep_fits; inside_text = i.inside_text }

pub inner_fit : {text : List ℕ} {opener t : Token.Token} {index parent d : ℕ} → Fit text opener index parent → d ≤ opener.first → Comes text opener.end (Next.Token t) →
    Fit text t index parent × (d + 1 ≤ t.first)
inner_fit {text} f h k =
    let y = token_bounds text k in (
      record {
        short = f.short;
        some_byte = y.1;
        inside_text = y.2;
        index_fits = omega (arith, f.index_fits, f.some_byte, y.0);
        parent_fits = f.parent_fits;
      },
      omega (arith, h, f.some_byte, y.0),
    )

pub enters_at : {mode : Mode} {at index : ℕ} (d : ℕ) (s : State.State) → s ≡ entering mode at d index → s.at ≡ at
enters_at d s e = ap (λ (x : State.State). x.at) e

pub start_inner : {text : List ℕ} {t : Token.Token} {index parent d at : ℕ} {mode : Mode} (s : State.State) → s ≡ entering mode at d index → Fit text t index parent → d ≤ t.first →
    (t.end ≤ at) × (at ≤ length text) → Inner text t s index parent
start_inner {text} {t} {index} {parent} s e f h (a, b) =
    subst (λ (x : State.State). Inner text t x index parent) (sym e) (record { fit = f; after = omega (arith, a); deep_fits = omega (arith, h, f.some_byte, a); inside_text = b })

pub first_inner : {text : List ℕ} {t u : Token.Token} {index parent d end n : ℕ} {shape : Shape} → Fit text t index parent → d ≤ t.first → Comes text t.end (Next.Token u) →
    (u.first + n ≤ end) × (u.end ≤ end) × (end ≤ length text) → Inner text t (behind_first d index end n shape) index parent
first_inner {text} f h k (a, b, c) =
    let y = token_bounds text k in
    record { fit = f; after = omega (arith, y.0, a); deep_fits = omega (arith, h, f.some_byte, y.0, y.1, b); inside_text = c }

pub begin_from : {text : List ℕ} {limits : Limits} {forms : Forms} {d at index parent : ℕ} {t : Token.Token} {mode : Mode} (b : Result Begin Refused) → Fit text t index parent → Starts text limits forms d t b → b ≡ Ok (Begin.Bracket mode at) →
    (t.end ≤ at) × (at ≤ length text)
begin_from {text} {limits} {forms} {d} {t = t} b f x e = subst (λ (y : Result Begin Refused). From text t y) e ((begins_so text limits forms d t x).from f.inside_text)

pub begin_got : {text : List ℕ} {limits : Limits} {forms : Forms} {d index parent : ℕ} {t : Token.Token} {g : Result Token.Token Refused} (b : Result Begin Refused) → Fit text t index parent → Starts text limits forms d t b → b ≡ Ok (Begin.Round g) →
    Gets text t.end g
begin_got {text} {limits} {forms} {d} {t = t} b f x e = subst (λ (y : Result Begin Refused). From text t y) e ((begins_so text limits forms d t x).from f.inside_text)

pub turn_narrow : {text : List ℕ} {opener t : Token.Token} {s : State.State} {index parent : ℕ} → Inner text opener s index parent → Comes text s.at (Next.Token t) → Narrow s t index
turn_narrow {text} i k =
    let y = token_bounds text k in
    record { after = omega (arith, i.after, i.fit.some_byte, i.fit.index_fits); token_after = y.0; token_byte = y.1; short = omega (arith, y.2, i.fit.short) }

pub turn_behind : {text : List ℕ} {start : Start.Start} {s : State.State} → Inside text start s → Behind start.token s
turn_behind i = record { after = i.after; deep_fits = i.deep_fits }

-- bytes left, and behind them the reader's rank
abbrev pub left_at : List ℕ → ℕ → ℕ → ℕ
left_at text at rank = 8 * (length text - at) + rank

-- a call of a lower rank, no byte back
pub rank_falls : (text : List ℕ) {a b q r t : ℕ} → left_at text a r ≡ t → a ≤ b → q < r → left_at text b q < t
rank_falls text e h l = omega (arith, e, h, l)

-- a call behind at least a byte, of any rank
pub byte_falls : (text : List ℕ) (r : ℕ) {a b q t : ℕ} → left_at text a r ≡ t → a < b → b ≤ length text → q < 8 → left_at text b q < t
byte_falls text r e h k l = omega (arith, e, h, k, l)

pub token_falls : (text : List ℕ) (r : ℕ) {a q t : ℕ} {u : Token.Token} → left_at text a r ≡ t → Comes text a (Next.Token u) → q < 8 → left_at text u.end q < t
token_falls text r e k l = let y = token_bounds text k in byte_falls text r e (omega (arith, y.0, y.1)) y.2 l

-- the loop over a bracket's members: from the state in which it was entered to where it stands
pub record Going (text : List ℕ) (limits : Limits) (forms : Forms) (opener : Token.Token) (from : List ℕ) (index parent : ℕ) (entered : State.State) (left : List ℕ) (s : State.State) : Type 0 where
  pub inner : Inner text opener s index parent
  pub onward : entered.at ≤ s.at
  pub length_is : length left ≡ length from
  pub holds : (lent : List ℕ) (K : Stack) (c : Config) → Holds text limits forms opener lent from index K c entered → (d : Config) × Holds text limits forms opener lent left index K d s

module _ {text : List ℕ} {limits : Limits} {forms : Forms} {opener : Token.Token} {from : List ℕ} {index parent : ℕ} {entered s : State.State} {left last : List ℕ} (g : Going text limits forms opener from index parent entered left s)
    (r : Result Turn Refused) (m : Member text limits forms opener s left last index parent r) where
  turned_as : (z : Result Turn Refused) → r ≡ z → Turned text opener s z
  turned_as z e = subst (λ (y : Result Turn Refused). Turned text opener s y) e m.turned

  turns_as : (z : Result Turn Refused) → r ≡ z → (lent : List ℕ) (K : Stack) (c : Config) → Holds text limits forms opener lent from index K c entered → Turns text limits forms opener lent last index parent K z
  turns_as z e lent K c h = let x = g.holds lent K c h in subst (λ (y : Result Turn Refused). Turns text limits forms opener lent last index parent K y) e (m.turns lent K x.0 x.1)

  pub going_on : {n : State.State} → r ≡ Ok (Turn.On n) → length last ≡ length left → Going text limits forms opener from index parent entered last n
  going_on {n} e l =
      let z = turned_as (Ok (Turn.On n)) e in
      record {
        inner = record { fit = g.inner.fit; after = z.0; deep_fits = z.1; inside_text = z.3 };
        onward = omega (arith, g.onward, z.2);
        length_is = l ∙ g.length_is;
        holds = turns_as (Ok (Turn.On n)) e;
      }

  pub going_ends : {v : Read} → r ≡ Ok (Turn.Ended v) → Bracketed text limits forms opener entered from last index parent (Ok v)
  going_ends {v} e = record { sized = turned_as (Ok (Turn.Ended v)) e; outcome = turns_as (Ok (Turn.Ended v)) e }

  pub going_refused : {f : Refused} → r ≡ Err f → Bracketed text limits forms opener entered from last index parent (Err f)
  going_refused {f} e = record { sized = tt; outcome = turns_as (Err f) e }

pub going_starts : {text : List ℕ} {limits : Limits} {forms : Forms} {opener : Token.Token} {from : List ℕ} {index parent : ℕ} {s : State.State} → Inner text opener s index parent → Going text limits forms opener from index parent s from s
going_starts i = record { inner = i; onward = omega arith; length_is = refl; holds = λ lent K c h. (c, h) }
