-- The children of a bracket one after the other: what a turn of the writer's loop puts. Assumes nothing.
use mathlib.Core.Path.{◌≡◌, refl, sym, ap, subst, ◌∙◌}
use mathlib.Core.List.{List, [], ◌++◌, append_assoc, append-nil}
use Prim.Native.Nat.{ℕ, ◌+◌, ◌≤◌, ◌<◌}
use native.Mathlib.Omega.{arith}
use lib.ListN.{length, length-append}
use Rattle.grammar.specs.Nodes
use Rattle.grammar.specs.Nodes.{Role, role_number, role_word, word_at}
use Rattle.buffer.specs.declared.Writer.{Writer}
use Rattle.buffer.specs.Appends.{Appends, AppendsPart}
use Rattle.buffer.proofs.Appending.{appends_none, appends_then, appends_same, appends_length}
use Rattle.grammar.proofs.Branches.{Branches, none, more, flat, flats}
use Rattle.form.proofs.Walk.{Listed, no_more, child, turned, lead, role_of, one_attribute}
use Rattle.marks.specs.declared.Attributes.{Attributes}
use Rattle.marks.specs.ByNumber.{lead_by, counted_by}
use Rattle.marks.proofs.Around.{leads, one_behind, counts, counts_two}
use Rattle.plain.specs.Nodes.{From, Children, Past, Behind, ChildBytes}
use Rattle.plain.specs.Nodes as Spec
use Rattle.plain.proofs.Tables.{some_node, role_word_lem, from_first, from_rest}

-- a role is told by its number
that_before_lem : (r : Role) → role_number r ≡ role_number Nodes.that_before → r ≡ Nodes.that_before
that_before_lem Nodes.root e = absurd (omega (arith, e))
that_before_lem Nodes.this e = absurd (omega (arith, e))
that_before_lem Nodes.that_after e = absurd (omega (arith, e))
that_before_lem Nodes.that_before e = refl
that_before_lem Nodes.name e = absurd (omega (arith, e))
that_before_lem Nodes.value e = absurd (omega (arith, e))
that_before_lem Nodes.count e = absurd (omega (arith, e))
that_before_lem Nodes.low e = absurd (omega (arith, e))
that_before_lem Nodes.high e = absurd (omega (arith, e))
that_before_lem Nodes.single e = absurd (omega (arith, e))

-- ---- the index behind a child

-- a that before its this
pub behind_this : {words : List ℕ} {role then r : ℕ} → role ≡ role_number Nodes.that_before → Past words then r → Behind words role then r
behind_this that p =
    record {
      alone = λ other. absurd (other that);
      turned = λ e. p;
      not_before = p.not_before;
    }

pub behind_alone : {words : List ℕ} {role then : ℕ} → (role ≡ role_number Nodes.that_before → ⊥) → Behind words role then then
behind_alone other =
    record {
      alone = λ e. refl;
      turned = λ that. absurd (other that);
      not_before = omega arith;
    }

-- ---- one child more

module _ (text words : List ℕ) (detail stop : ℕ) where
  -- bs is done as far as the children before the index i, behind one of the role with the number before; the other
  -- children stand from there up to stop. All children are one attribute if these are, behind those that are counted
  record Rest (all : Branches) (bs : List ℕ) (u v : Writer) (before : ℕ) (count : Attributes) (i : ℕ) : Type 0 where
    done : List ℕ
    left : List ℕ
    children : Branches
    parent : ℕ
    from : From words children parent i
    listed : Listed text detail before children left
    bytes_are : bs ≡ done ++ left
    stop_is : stop ≡ i + length (flats children parent i)
    appends : Appends u done v
    one_is : one_attribute all ≡ one_behind count children

  module _ (before : ℕ) (count : Attributes) {all : Branches} {bs : List ℕ} {u v w x : Writer} {i then j held : ℕ} {counted : Attributes} (here : i < stop) (role_is : held ≡ word_at words i role_word)
      (led : Appends v (lead_by detail before held) w) (written : AppendsPart (ChildBytes text words held i) w x)
      (past : Past words i then) (behind : Behind words held then j) (counted_is : counted ≡ counted_by count held) where
    -- the child's bytes, and the children behind it
    on : (r : Role) (p : ℕ) {taken done ms : List ℕ} {cs : Branches} {place : ℕ} → held ≡ role_number r → ChildBytes text words held i taken →
        j ≡ place → From words cs p place → stop ≡ place + length (flats cs p place) → Listed text detail (role_number r) cs ms →
        bs ≡ done ++ (lead detail before r ++ taken ++ ms) → Appends u done v →
        one_attribute all ≡ one_behind (counted_by count (role_number r)) cs → Rest all bs u x held counted j
    on r p {taken} {done} {ms} {cs} h c is f s l e q y =
        let ld = lead detail before r in
        record {
          done = done ++ (ld ++ taken);
          left = ms;
          children = cs;
          parent = p;
          from = subst (λ (z : ℕ). From words cs p z) (sym is) f;
          listed = subst (λ (z : ℕ). Listed text detail z cs ms) (sym h) l;
          bytes_are = e ∙ sym (append_assoc done (ld ++ taken) ms);
          stop_is = subst (λ (z : ℕ). stop ≡ z + length (flats cs p z)) (sym is) s;
          appends = appends_then q (appends_then (appends_same (ap (lead_by detail before) h ∙ leads detail before r) led) (written.appends taken c));
          one_is = y ∙ sym (ap (λ (z : Attributes). one_behind z cs) (counted_is ∙ ap (counted_by count) h));
        }

    rest_on : Rest all bs u v before count i → Rest all bs u x held counted j
    rest_on r =
        go r.children r.done r.left r.parent r.from r.listed r.bytes_are r.stop_is r.appends r.one_is
      where
        go : (cs : Branches) (done left : List ℕ) (p : ℕ) → From words cs p i → Listed text detail before cs left → bs ≡ done ++ left →
            stop ≡ i + length (flats cs p i) → Appends u done v → one_attribute all ≡ one_behind count cs → Rest all bs u x held counted j
        go none done left p f no_more e s q c = absurd (omega (arith, here, s))
        go (more a cs) done left p f (child other walked l) e s q c =
            let y = from_first a cs p f in
            let h = role_is ∙ role_word_lem a p y in
            let alone : held ≡ role_number Nodes.that_before → ⊥ = λ z. other (that_before_lem (role_of a) (sym h ∙ z)) in
            let after = i + length (flat a p i) in
            let ends = past.is a p y in
            on (role_of a) p h (Spec.alone alone (record { b = a; parent = p; stands = y; walked = walked })) (behind.alone alone ∙ ends)
            (from_rest a cs p f) (omega (arith, s, length-append (flat a p i) (flats cs p after))) l e q
            (c ∙ counts count a cs (λ z. other (that_before_lem (role_of a) z)))
        go (more a (more b cs)) done left p f (turned that wa wb l) e s q c =
            let y = from_first a (more b cs) p f in
            let g = from_rest a (more b cs) p f in
            let h = role_is ∙ role_word_lem a p y in
            let turned : held ≡ role_number Nodes.that_before = h ∙ ap role_number that in
            let this = i + length (flat a p i) in
            let after = this + length (flat b p this) in
            let ends : then ≡ this = past.is a p y in
            let at-then = subst (λ (z : ℕ). From words (more b cs) p z) (sym ends) g in
            let ends-too = (behind.turned turned).is b p (from_first b cs p at-then) in
            on (role_of a) p h
            (Spec.turned turned (record { b = a; parent = p; stands = y; walked = wa })
            (record { b = b; parent = p; stands = from_first b cs p g; walked = wb }))
            (ends-too ∙ ap (λ (z : ℕ). z + length (flat b p z)) ends) (from_rest b cs p g)
            (omega (arith, s, length-append (flat a p i) (flats (more b cs) p this), length-append (flat b p this) (flats cs p after))) l e q
            (c ∙ counts_two count a b cs (ap role_number that))

  -- ---- the loop

  -- at the index i, the children standing from the index first on, and u being the writer before them
  pub record Going (first : ℕ) (u v : Writer) (before : ℕ) (count : Attributes) (i : ℕ) : Type 0 where
    rest_of : (cs : Branches) (bs : List ℕ) → Children words first stop cs → Listed text detail 0 cs bs → Rest cs bs u v before count i
    pub same_buffer : v.buffer.ghost_name ≡ u.buffer.ghost_name
    pub same_length : length v.buffer.now ≡ length u.buffer.now
    pub onward : first ≤ i

  pub going_starts : (first : ℕ) (u : Writer) → Going first u u 0 Attributes.No first
  going_starts first u =
      record {
        rest_of = λ cs bs x listed.
            record {
              done = [];
              left = bs;
              children = cs;
              parent = x.parent;
              from = x.from;
              listed = listed;
              bytes_are = refl;
              stop_is = x.stop_is;
              appends = appends_none u;
              one_is = refl;
            };
        same_buffer = refl;
        same_length = refl;
        onward = omega arith;
      }

  pub going_on : {first : ℕ} {u v w x : Writer} {before i then j held : ℕ} {count counted : Attributes} → i < stop → held ≡ word_at words i role_word →
      Appends v (lead_by detail before held) w → AppendsPart (ChildBytes text words held i) w x → Past words i then →
      Behind words held then j → counted ≡ counted_by count held → Going first u v before count i → Going first u x held counted j
  going_on here role_is led written past behind counted_is g =
      record {
        rest_of = λ cs bs c l. rest_on _ _ here role_is led written past behind counted_is (g.rest_of cs bs c l);
        same_buffer = written.same_buffer ∙ led.same_buffer ∙ g.same_buffer;
        same_length = written.same_length ∙ appends_length led ∙ g.same_length;
        onward = omega (arith, past.not_before, behind.not_before, g.onward);
      }

  -- behind the last child all of them are done, and counted
  pub going_ends : {first : ℕ} {u v : Writer} {before i : ℕ} {count : Attributes} → stop ≤ i → Going first u v before count i →
      (cs : Branches) (bs : List ℕ) → Children words first stop cs → Listed text detail 0 cs bs →
      Appends u bs v × (one_attribute cs ≡ one_behind count none)
  going_ends {u = u} {v} {before} {i} {count} ended g cs bs c l = all (g.rest_of cs bs c l)
    where
      all : Rest cs bs u v before count i → Appends u bs v × (one_attribute cs ≡ one_behind count none)
      all r = go r.children r.done r.left r.parent r.listed r.bytes_are r.stop_is r.appends r.one_is
        where
          go : (ds : Branches) (done left : List ℕ) (p : ℕ) → Listed text detail before ds left → bs ≡ done ++ left →
              stop ≡ i + length (flats ds p i) → Appends u done v → one_attribute cs ≡ one_behind count ds →
              Appends u bs v × (one_attribute cs ≡ one_behind count none)
          go none done left p no_more e s q y = (appends_same (sym (e ∙ append-nil done)) q, y)
          go (more a ds) done left p z e s q y =
              absurd (omega (arith, ended, s, some_node a p i, length-append (flat a p i) (flats ds p (i + length (flat a p i)))))
