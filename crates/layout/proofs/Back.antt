-- A text laid out anew can be laid back: its front is the same, and behind it the stretches are full ones too. Assumes nothing.
use mathlib.Core.Path.{◌≡◌, refl, sym, ap, subst, ◌∙◌}
use mathlib.Core.Logic.{◌⊎◌, inl, inr}
use mathlib.Core.Bool.{true}
use mathlib.Core.List.{List, [], ◌∷◌, ◌++◌}
use Prim.Native.Nat.{ℕ, ◌+◌, ◌-◌, ◌≤◌, ◌<◌}
use native.Mathlib.Decide.{dec_le}
use native.Mathlib.Nat.{add-zero}
use native.Mathlib.Omega.{arith}
use lib.ListN.{length, get_or, drop, length-take, length-drop, drop_of_length-le}
use lib.Seq.{length-take-le, get_or-take, get_or-drop}
use Rattle.rules.specs.Class.{Class, In, has, just, codes, ◌upto◌}
use Rattle.rules.specs.Rule.{Rule, one, many, opt, row, lit, At, Takes, nothing, byte, both, left, right, stop, Fails}
use Rattle.rules.specs.Every.{Every, none, also}
use Rattle.rules.proofs.Classes.{apart, apart_span, includes, in_some, includes_in, in_cons}
use Rattle.rules.proofs.Matches.{forward, inside, starting, ending, one_at, byte_at, row_end}
use Rattle.rules.proofs.Plain.{plain, placed, between_stands, row_matches}
use Rattle.rules.proofs.Windows.{Window, moved}
use Rattle.rules.proofs.Chains.{reaches, snoc}
use Rattle.rules.proofs.Ways.{never, never_takes, begins_none, opens, opens_at}
use Rattle.lexicon.specs.Space.{blank, sp}
use Rattle.lexicon.specs.Front.{Front, byte_order_mark, newline, not_newline, first_line}
use Rattle.lexicon.proofs.Spaces.{byte_single}
use Rattle.lexicon.proofs.Segments.{quote_blank}
use Rattle.form.proofs.Pieces.{row_self}
use Rattle.layout.specs.Relaid.{quote, quotes, ordinary, Alike, ends, same_byte, same_quotes, stretch, Relaid}
use Rattle.layout.proofs.Cut.{ordinary_blank, first_at_lem, first_takes, quote_first, none_first, bytes_first}

-- ---- behind the front

-- where no blank begins, none begins in what is alike
pub no_blank : {s t : List ℕ} → Alike s t → Fails s blank 0 → Fails t blank 0
no_blank ends f = f
no_blank (same_byte {b = b} {t = t} i a) f = begins_none (b ∷ t) ordinary blank ordinary_blank (first_at_lem ordinary b t i)
no_blank (same_quotes {q = q} {t = t} m a) f = begins_none (q ++ t) quote blank quote_blank (quote_first t m)
no_blank (stretch {a = x} {s = s} m g n a) f = absurd (begins (first_takes m s))
  where
    begins : {j : ℕ} → Takes (x ++ s) sp 0 j → ⊥
    begins (both t u) = f.none t

pub alike_back : {s t : List ℕ} → Alike s t → Alike t s
alike_back ends = ends
alike_back (same_byte i a) = same_byte i (alike_back a)
alike_back (same_quotes m a) = same_quotes m (alike_back a)
alike_back (stretch m f n a) = stretch n (no_blank a f) m (alike_back a)

-- ---- the front

-- every byte: a newline, or another
abbrev any_byte : Class
any_byte = 0x0A upto 0x0A ∷ not_newline

ordinary_any : includes ordinary any_byte ≡ true
unfolding includes in_some
ordinary_any = refl

quotes_any : opens any_byte quotes ≡ true
unfolding opens includes in_some
quotes_any = refl

sp_any : opens any_byte sp ≡ true
unfolding opens includes in_some
sp_any = refl

-- a text that is alike to another consists of bytes, so a first line that goes no further has come to a newline or to the end
first_byte_lem : {s t : List ℕ} → Alike s t → 0 < length s → At s any_byte 0
first_byte_lem ends h = absurd (omega (arith, h))
first_byte_lem (same_byte {b = b} {s = s} i a) h = first_at_lem any_byte b s (includes_in ordinary any_byte b ordinary_any i)
first_byte_lem (same_quotes {q = q} {s = s} m a) h = opens_at (q ++ s) any_byte quotes quotes_any (first_takes m s)
first_byte_lem (stretch {a = x} {s = s} m f n a) h = opens_at (x ++ s) any_byte sp sp_any (first_takes m s)

-- the mark, and what the first line begins with
abbrev mark_bytes : List ℕ
mark_bytes = 0xEF ∷ 0xBB ∷ 0xBF ∷ []

abbrev line_bytes : List ℕ
line_bytes = codes "#!"

mark_ordinary : Every (In ordinary) mark_bytes
unfolding has
mark_ordinary = also refl (also refl (also refl none))

line_ordinary : Every (In ordinary) line_bytes
unfolding has
line_ordinary = also refl (also refl none)

-- a first line is no mark
line_mark : never (just 0x23) byte_order_mark ≡ true
unfolding never apart apart_span
line_mark = refl

newline_not : never newline (one not_newline) ≡ true
unfolding never apart apart_span
newline_not = refl

module _ {text other : List ℕ} (r : Relaid text other) where
  marked_within : r.front.marked ≤ length text
  marked_within = inside r.front.mark.takes (omega arith)

  pub text_within : r.start ≤ length text
  text_within = inside r.front.line.takes marked_within

  marked_start : r.front.marked ≤ r.start
  marked_start = forward r.front.line.takes

  pub other_within : r.start ≤ length other
  other_within = omega (arith, length-take r.start other, ap length r.same_front, length-take-le r.start text text_within)

  window : Window text other 0 0 r.start
  window =
      record {
        from_within = omega (arith, text_within);
        to_within = omega (arith, other_within);
        same = λ x h. ap (λ (n : ℕ). get_or text n 0) (omega arith) ∙ sym (get_or-take r.start text x 0 h)
            ∙ ap (λ (l : List ℕ). get_or l x 0) (sym r.same_front) ∙ get_or-take r.start other x 0 h ∙ ap (λ (n : ℕ). get_or other n 0) (omega arith);
      }

  -- what a rule takes of the front it takes of the other's
  over : {q : Rule} {i j : ℕ} → Takes text q i j → j ≤ r.start → Takes other q i j
  over t h = starting (omega arith) (ending (omega arith) (moved text other 0 0 r.start window t (omega arith) (omega (arith, h))))

  -- a row of ordinary bytes that stands behind the other's front stands behind this text's
  row_behind : (bs : List ℕ) → Every (In ordinary) bs → {k : ℕ} → Takes other (row bs) r.start k → Takes text (row bs) r.start k
  row_behind bs o {k} t =
      let y = drop (k - r.start) (drop r.start other) in
      let e : drop r.start other ≡ bs ++ y = between_stands other r.start k ∙ ap (λ (l : List ℕ). l ++ y) (row_matches bs (plain other t)) in
      let x = bytes_first o y (alike_back r.behind) e in
      ending (sym (row_end bs t)) (placed text (row_self bs) r.start x.rest x.is)

  -- the other has the mark where this text has it
  mark_most : {k : ℕ} → Takes other (opt byte_order_mark) 0 k → k ≤ r.front.marked
  mark_most (right (nothing e)) = omega (arith, e)
  mark_most {k} (left t) = by r.front.mark.takes r.front.line.takes refl refl
    where
      by : {m s : ℕ} → Takes text (opt byte_order_mark) 0 m → Takes text (opt first_line) m s → m ≡ r.front.marked → s ≡ r.start →
          k ≤ r.front.marked
      by (left u) l e f = omega (arith, row_end mark_bytes u, row_end mark_bytes t, e)
      by (right (nothing x)) (left (both (both (byte a y) u) v)) e f =
          absurd (never_takes other (just 0x23) byte_order_mark line_mark
          (byte_at (over (starting (sym x) (one_at a)) (omega (arith, x, y, f, forward u, forward v)))) t)
      by (right (nothing x)) (right (nothing y)) e f =
          let z : 0 ≡ r.start = omega (arith, x, y, e, f) in
          r.front.mark.most (left (starting (sym z) (row_behind mark_bytes mark_ordinary (starting z t))))

  -- a first line without a newline ends with the text, and so does the other's
  no_newline : Takes text (lit "#!") r.front.marked (r.front.marked + 2) → Takes text (many (one not_newline)) (r.front.marked + 2) r.start →
      length other ≤ r.start
  no_newline l v = by (dec_le (length text) r.start)
    where
      on : In newline (get_or text r.start 0) ⊎ In not_newline (get_or text r.start 0) → r.start < length text → ⊥
      on (inl i) h = omega (arith, r.front.line.most (left (both l (both v (left (one_at (h, i)))))))
      on (inr i) h = omega (arith, r.front.line.most (left (both l (both (snoc v (one_at (h, i))) (right (nothing refl))))))

      by : Dec (length text ≤ r.start) → length other ≤ r.start
      by (yes h) = omega (arith, length-drop r.start other, ap length (none_first r.behind (drop_of_length-le text h)))
      by (no h) =
          let a = first_byte_lem r.behind (omega (arith, h, length-drop r.start text)) in
          let e = get_or-drop r.start text 0 0 ∙ ap (λ (n : ℕ). get_or text n 0) (add-zero r.start) in
          absurd (on (in_cons (0x0A upto 0x0A) not_newline _ (subst (In any_byte) e a.1)) (omega (arith, h)))

  -- and its first line ends there
  line_most : {k : ℕ} → Takes other (opt first_line) r.front.marked k → k ≤ r.start
  line_most (right (nothing e)) = omega (arith, e, marked_start)
  line_most {k} (left t) = by r.front.line.takes refl refl t
    where
      by : {m s : ℕ} → Takes text (opt first_line) m s → m ≡ r.front.marked → s ≡ r.start → Takes other first_line m k → k ≤ r.start
      by (right (nothing x)) e f (both l u) =
          let y = row_behind line_bytes line_ordinary (starting (x ∙ f) l) in
          let z = r.front.line.most (left (both (starting (sym f ∙ sym x ∙ e) y) (both (stop refl) (right (nothing refl))))) in
          absurd (omega (arith, row_end line_bytes y, z))
      by (left (both l (both v (left (byte a x))))) e f (both m (both n o)) =
          let y = over v (omega (arith, x, f)) in
          let z = byte_at (over (one_at a) (omega (arith, x, f))) in
          let w = starting (row_end line_bytes m ∙ sym (row_end line_bytes l)) n in
          omega (arith, forward (reaches (byte_single not_newline) y (begins_none other newline (one not_newline) newline_not z) w), last o, x, f)
        where
          last : {i j : ℕ} → Takes other (opt (one newline)) i j → j ≤ i + 1
          last (left (byte b y)) = omega (arith, y)
          last (right (nothing y)) = omega (arith, y)
      by (left (both l (both v (right (nothing x))))) e f u =
          let y = row_end line_bytes l in
          omega (
            arith,
            inside t (omega (arith, marked_start, other_within)),
            no_newline (starting e (ending (y ∙ ap (λ (n : ℕ). n + 2) e) l)) (starting (y ∙ ap (λ (n : ℕ). n + 2) e) (ending (x ∙ f) v)),
          )

  pub front_there : Front other r.start
  front_there =
      record {
        marked = r.front.marked;
        mark = record { takes = over r.front.mark.takes marked_start; most = λ t. mark_most t };
        line = record { takes = over r.front.line.takes (omega arith); most = λ t. line_most t };
      }

  pub relaid_back : Relaid other text
  relaid_back = record { start = r.start; front = front_there; same_front = sym r.same_front; behind = alike_back r.behind }
