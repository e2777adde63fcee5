-- What a rule that fits takes of a text it takes of the text laid out anew, between the places that stand for each other. Assumes nothing.
use mathlib.Core.Path.{◌≡◌, refl, sym, subst, ap, ◌∙◌}
use mathlib.Core.Bool.{true}
use mathlib.Core.List.{List, ◌++◌}
use Prim.Native.Nat.{ℕ, suc, ◌+◌, ◌-◌, ◌≤◌, ◌<◌}
use native.Mathlib.Omega.{arith}
use lib.ListN.{length, get_or}
use Rattle.rules.specs.Class.{Class, In}
use Rattle.rules.specs.Rule.{Rule, one, many, opt, Takes, nothing, byte, both, left, right, stop, more, At, Longest, Fails}
use Rattle.rules.proofs.Matches.{forward, inside, one_at}
use Rattle.rules.proofs.Windows.{Window, Moves, shift, same_window, window_more, takes_moves}
use Rattle.rules.proofs.Chains.{reaches, many_of_opt, many_of_times, each}
use Rattle.rules.proofs.Ways.{never, never_takes, end_takes, begins_within}
use Rattle.lexicon.specs.Space.{blank, sp}
use Rattle.lexicon.specs.Literals.{joint, unit, segment}
use Rattle.lexicon.specs.Values.{Digits, last_unit, next_unit, read}
use Rattle.lexicon.proofs.Spaces.{blank_single}
use Rattle.lexicon.proofs.Segments.{quote_blank}
use Rattle.lexicon.proofs.Groups.{to_row, of_row, unit_at, unit_end}
use Rattle.lexicon.proofs.Moved.{read_moved}
use Rattle.form.proofs.Fits.{Sub, Mode, exact, loose, Fits, none, one_of, seq, alt, star, space, units, segments, wide, narrow}
use Rattle.layout.specs.Relaid.{quote, quotes, ordinary}
use Rattle.layout.proofs.Fit.{low_line}
use Rattle.layout.proofs.Cut.{segment_quotes, sp_many, ordinary_blank, ordinary_sp, ordinary_quotes, quote_sp, quotes_single}
use Rattle.layout.proofs.Path.{sp_full, Step, same, quoted, gap, Path, here, step, Ahead, turned, joined_path, path_forward, monotone, one_place}

quotes_within : {text : List ℕ} {i j : ℕ} → Takes text quotes i j → j ≤ length text
quotes_within t = inside t (omega (arith, begins_within quotes refl t))

-- the two texts, and a pair of places from which the way to the ends begins
module _ (text other : List ℕ) (s t : ℕ) where
  -- the places stand for each other
  pub record On (i k : ℕ) : Type 0 where
    pub back : Path text other s t i k
    pub ahead : Ahead text other i k

  -- a place inside a stretch: it stands for the end of what the other has there
  pub record Inside (i k : ℕ) : Type 0 where
    pub end : ℕ
    pub rest : Takes text (many blank) i end
    pub full : Fails text blank end
    pub on : On end k

  -- where dividing space may have been passed, and where not
  pub data Reached : Mode → ℕ → ℕ → Type 0 where
    just_at : {m : Mode} {i k : ℕ} → On i k → Reached m i k
    within_it : {i k : ℕ} → Inside i k → Reached loose i k

  -- one byte, the same in the other
  pub record Byte (i k : ℕ) : Type 0 where
    pub inside : k < length other
    pub equal : get_or text i 0 ≡ get_or other k 0
    pub on : On (i + 1) (k + 1)

  -- a stretch, and what the other has there
  pub record Stretch (i k : ℕ) : Type 0 where
    pub end : ℕ
    pub dest : ℕ
    pub whole : Longest text sp i end
    pub instead : Longest other sp k dest
    pub on : On end dest

  abbrev pub Carried : Rule → Mode → ℕ → ℕ → Type 0
  Carried r o k j = (l : ℕ) × Takes other r k l × Reached o j l

  -- bytes that are the same in the other
  pub record Copied (i j k : ℕ) : Type 0 where
    pub dest : ℕ
    pub ahead : i ≤ j
    pub long : dest ≡ k + (j - i)
    pub window : Window text other i k (j - i)
    pub on : On j dest

  -- a row of units, with the same digits
  pub record Rows (n : ℕ) (c : Class) (j k : ℕ) (ds : List ℕ) : Type 0 where
    pub dest : ℕ
    pub digits_are : Digits other n c k dest ds
    pub on : On j dest

  -- what moves with its bytes is the other's too
  pub copied : {i j k : ℕ} (c : Copied i j k) (F : List ℕ → ℕ → ℕ → Type 0) → Moves F → F text i j → F other k c.dest
  copied {i} {j} {k} c F m x =
      let e : shift i k i ≡ k = omega arith in
      let f : shift i k j ≡ c.dest = omega (arith, c.long) in
      subst (λ (n : ℕ). F other n c.dest) e (subst (λ (n : ℕ). F other (shift i k i) n) f
      (m text other i k (j - i) c.window i j x (omega arith) (omega (arith, c.ahead))))

  moved : {i k m n : ℕ} → Path text other s t i k → Step text other i k m n → Ahead text other m n → On m n
  moved p x q = record { back = joined_path p (step x (here refl refl)); ahead = q }

  pub on_at : {i j k l : ℕ} → i ≡ j → k ≡ l → On i k → On j l
  on_at {i} {j} {k} {l} e f o = subst (λ (x : ℕ). On x l) e (subst (λ (x : ℕ). On i x) f o)

  pub exactly : {i k : ℕ} → Reached exact i k → On i k
  exactly (just_at o) = o

  -- ---- one byte

  pub byte_on : {i k : ℕ} → On i k → At text ordinary i → Byte i k
  byte_on o a = go o.back o.ahead a
    where
      go : {i k : ℕ} → Path text other s t i k → Ahead text other i k → At text ordinary i → Byte i k
      go b (here p q) a = absurd (omega (arith, a.0))
      go b (step (same x y z) r) a = record { inside = y; equal = z; on = moved b (same x y z) r }
      go b (step (quoted x y z) r) a = absurd (never_takes text ordinary quotes ordinary_quotes a x)
      go b (step (gap x y) r) a = absurd (never_takes text ordinary sp ordinary_sp a x.takes)

  -- a run of ordinary bytes
  pub run_on : {i j k : ℕ} → On i k → Takes text (many (one ordinary)) i j → Copied i j k
  run_on {i} {j} {k} o (stop e) =
      let h = path_forward o.ahead in
      let n : j - i ≡ 0 = omega (arith, e) in
      record {
        dest = k;
        ahead = omega (arith, e);
        long = omega (arith, n);
        window = record { from_within = omega (arith, n, h.0); to_within = omega (arith, n, h.1); same = λ x l. absurd (omega (arith, l, n)) };
        on = on_at e refl o;
      }
  run_on {i} {j} {k} o (more {m = m} (byte a e) u) = go (byte_on o a) (λ p. run_on p u)
    where
      go : Byte i k → (On m (k + 1) → Copied m j (k + 1)) → Copied i j k
      go b h =
          let c = h (on_at (sym e) refl b.on) in
          let n : 1 + (j - m) ≡ j - i = omega (arith, e, c.ahead) in
          record {
            dest = c.dest;
            ahead = omega (arith, e, c.ahead);
            long = omega (arith, e, c.long, c.ahead);
            window = subst (Window text other i k) n
                (window_more text other i k (j - m) b.equal (subst (λ (x : ℕ). Window text other x (k + 1) (j - m)) e c.window));
            on = c.on;
          }

  -- a place inside a stretch at which a byte stands that begins no blank is its end
  pub outside : (c : Class) (m : Mode) {i k : ℕ} → never c blank ≡ true → Reached m i k → At text c i → On i k
  outside c m e (just_at o) a = o
  outside c m e (within_it o) a = go o.rest o.on a
    where
      go : {i m k : ℕ} → Takes text (many blank) i m → On m k → At text c i → On i k
      go (stop f) p a = on_at (sym f) refl p
      go (more b f) p a = absurd (never_takes text c blank e a b)

  -- an ordinary byte of a class
  at_class : {c : Class} {i : ℕ} → Sub c ordinary → At text c i → At text ordinary i
  at_class e a = (a.0, e.into _ a.1)

  begun : {c : Class} (m : Mode) {i k : ℕ} → Sub c ordinary → Reached m i k → At text c i → On i k
  begun m e o a = outside ordinary m ordinary_blank o (at_class e a)

  -- ---- a stretch

  pub gap_on : {i j k : ℕ} → On i k → Takes text sp i j → Stretch i k
  gap_on o u = go o.back o.ahead u
    where
      go : {i j k : ℕ} → Path text other s t i k → Ahead text other i k → Takes text sp i j → Stretch i k
      go b (here p q) u = absurd (end_takes text sp refl (omega (arith, p)) u)
      go b (step (same x y z) r) u = absurd (never_takes text ordinary sp ordinary_sp x u)
      go b (step (quoted (both (byte x f) v) y z) r) u = absurd (never_takes text quote sp quote_sp x u)
      go b (step (gap x y) r) u = record { end = _; dest = _; whole = x; instead = y; on = moved b (gap x y) r }

  part_way : {i j k : ℕ} (x : Stretch i k) → Takes text sp i j → Inside j x.dest
  part_way x u = record { end = x.end; rest = reaches blank_single (sp_many x.whole.takes) (sp_full x.whole) (sp_many u); full = sp_full x.whole; on = x.on }

  space_on : {i j k : ℕ} → On i k → Takes text (opt sp) i j → Carried (opt sp) loose k j
  space_on {k = k} o (right (nothing e)) = (k, right (nothing refl), just_at (on_at e refl o))
  space_on o (left u) = let x = gap_on o u in (x.dest, left x.instead.takes, within_it (part_way x u))

  space_in : {i j k : ℕ} → Inside i k → Takes text (opt sp) i j → Carried (opt sp) loose k j
  space_in {k = k} o u =
      (k, right (nothing refl), within_it (record { end = o.end; rest = reaches blank_single o.rest o.full (many_of_opt u); full = o.full; on = o.on }))

  -- ---- digits

  joint_on : {i j k : ℕ} → On i k → Takes text (opt joint) i j → Carried (opt joint) loose k j
  joint_on {k = k} o (right (nothing f)) = (k, right (nothing refl), just_at (on_at f refl o))
  joint_on {k = k} o (left (left (byte a f))) =
      let b = byte_on o (at_class low_line a) in
      (k + 1, left (left (one_at (b.inside, subst (In _) b.equal a.1))), just_at (on_at (sym f) refl b.on))
  joint_on o (left (right u)) = let x = gap_on o u in (x.dest, left (right x.instead.takes), within_it (part_way x u))

  -- a unit is copied, with its bytes
  unit_on : (n : ℕ) (c : Class) {i j k : ℕ} → Sub c ordinary → On i k → Takes text (unit n c) i j →
      (v : Copied i j k) × Takes other (unit n c) k v.dest × (read text i n ≡ read other k n)
  unit_on n c {i} {j} {k} e o u =
      let v = run_on o (each one_ordinary (many_of_times n u)) in (
        v,
        copied v (λ (l : List ℕ). Takes l (unit n c)) (takes_moves (unit n c)) u,
        read_moved text other i k (j - i) v.window n i (omega arith) (omega (arith, unit_end n c u)) ∙ ap (λ (x : ℕ). read other x n) (omega arith),
      )
    where
      one_ordinary : (i j : ℕ) → Takes text (one c) i j → Takes text (one ordinary) i j
      one_ordinary i j (byte a f) = byte (at_class e a) f

  -- the row of digits is the same
  pub row_on : (n : ℕ) (c : Class) (m : Mode) {i j k : ℕ} {ds : List ℕ} → Sub c ordinary → Reached m i k → Digits text (suc n) c i j ds → Rows (suc n) c j k ds
  row_on n c m {k = k} e o (last_unit u) =
      let v = unit_on (suc n) c e (begun m e o (unit_at n u)) u in
      record { dest = v.0.dest; digits_are = subst (Digits other (suc n) c k v.0.dest) (sym v.2) (last_unit v.1); on = v.0.on }
  row_on n c m {k = k} e o (next_unit {ds = ds} u w d) =
      let v = unit_on (suc n) c e (begun m e o (unit_at n u)) u in
      let y = joint_on v.0.on w in
      let z = row_on n c loose e y.2 d in
      record { dest = z.dest; digits_are = subst (λ (l : List ℕ). Digits other (suc n) c k z.dest (l ++ ds)) (sym v.2) (next_unit v.1 y.1 z.digits_are); on = z.on }

  -- ---- quotes

  -- a segment's bytes are the same
  pub segment_on : {i j k : ℕ} → On i k → Takes text segment i j → Copied i j k
  segment_on o u = go o.back o.ahead (segment_quotes u)
    where
      go : {i j k : ℕ} → Path text other s t i k → Ahead text other i k → Takes text quotes i j → Copied i j k
      go b (here p q) (both (byte a e) w) = absurd (omega (arith, a.0))
      go b (step (same x y z) r) w = absurd (never_takes text ordinary quotes ordinary_quotes x w)
      go {i} {j} {k} b (step (quoted {j = m} {l = l} x y z) r) w =
          let e : m ≡ j = (quotes_single text).same x w in
          let c = same_window text other i m k l (forward x) (quotes_within x) (forward y) (quotes_within y) z in
          record {
            dest = l;
            ahead = forward w;
            long = c.0 ∙ ap (λ (n : ℕ). k + (n - i)) e;
            window = subst (λ (n : ℕ). Window text other i k (n - i)) e c.1;
            on = on_at e refl (moved b (quoted x y z) r);
          }
      go b (step (gap x y) r) (both (byte a e) w) = absurd (never_takes text quote sp quote_sp a x.takes)

  -- ---- any rule

  reached_at : (m : Mode) {i j k : ℕ} → i ≡ j → Reached m i k → Reached m j k
  reached_at m {k = k} e o = subst (λ (x : ℕ). Reached m x k) e o

  many_on : {m : Mode} {r : Rule} {i j k : ℕ} → ((i j k : ℕ) → Reached m i k → Takes text r i j → Carried r m k j) → Reached m i k → Takes text (many r) i j → Carried (many r) m k j
  many_on {m} {k = k} h o (stop e) = (k, stop refl, reached_at m e o)
  many_on h o (more u v) = let x = h _ _ _ o u in let y = many_on h x.2 v in (y.0, more x.1 y.1, y.2)

  pub carries : {Quotes : Type 0} {m o : Mode} {r : Rule} {i j k : ℕ} → Fits ordinary Quotes m r o → Reached m i k → Takes text r i j → Carried r o k j
  carries {m = m} {k = k} none o (nothing e) = (k, nothing refl, reached_at m e o)
  carries {m = m} {k = k} (one_of {c = c} e) o (byte a g) =
      let b = byte_on (begun m e o a) (at_class e a) in
      (k + 1, one_at (b.inside, subst (In c) b.equal a.1), just_at (on_at (sym g) refl b.on))
  carries (seq f g) o (both u v) = let x = carries f o u in let y = carries g x.2 v in (y.0, both x.1 y.1, y.2)
  carries (alt f g) o (left u) = let x = carries f o u in (x.0, left x.1, x.2)
  carries (alt f g) o (right u) = let x = carries g o u in (x.0, right x.1, x.2)
  carries (star f) o u = many_on (λ i j k p v. carries f p v) o u
  carries space (just_at o) u = space_on o u
  carries space (within_it o) u = space_in o u
  carries {m = m} (units n {c = c} e) o u =
      let d = to_row text (suc n) c u in
      let x = row_on n c m e o d.1 in
      (x.dest, of_row other (suc n) c x.digits_are, just_at x.on)
  carries {m = m} (segments q) o (both (byte a e) u) =
      let x = segment_on (outside quote m quote_blank o a) (both (byte a e) u) in
      (x.dest, copied x (λ (l : List ℕ). Takes l segment) (takes_moves segment) (both (byte a e) u), just_at x.on)
  carries (wide f) o u = let x = carries f o u in (x.0, x.1, just_at (exactly x.2))
  carries (narrow f) o u = carries f (just_at (exactly o)) u

-- back from the other text
pub turn_on : {text other : List ℕ} {s t i k : ℕ} → On text other s t i k → On other text t s k i
turn_on o = record { back = turned o.back; ahead = turned o.ahead }

-- one place stands for a place
pub one_on : {text other : List ℕ} {s t i k l : ℕ} → On text other s t i k → On text other s t i l → k ≡ l
one_on o p = one_place o.back p.back

-- further in the one text is further in the other
pub later_on : {text other : List ℕ} {s t i j k l : ℕ} → On text other s t i k → On text other s t j l → j ≤ i → l ≤ k
later_on o p h = monotone o.back p.back h
