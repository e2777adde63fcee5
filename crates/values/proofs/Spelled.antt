-- The bytes that a quoted text or a code point stands for are determined, and no more than its own. Assumes nothing.
use mathlib.Core.Path.{◌≡◌, refl, sym, ap, subst, ◌∙◌}
use mathlib.Core.Bool.{Bool, true, false, cond}
use mathlib.Core.List.{List, [], ◌∷◌, ◌++◌}
use Prim.Native.Nat.{ℕ, ◌+◌, ◌-◌, ◌*◌, ◌≤◌, ◌<◌}
use native.Mathlib.Omega.{arith}
use lib.Dec.{leb, ltb, eqb}
use lib.ListN.{length, get_or, length-append}
use Rattle.rules.specs.Class.{Class, In}
use Rattle.rules.specs.Rule.{one, plus, At, Takes, byte, both, stop, more, Fails}
use Rattle.rules.proofs.Classes.{apart, apart_span, apart_no, just_is, in_some, includes, includes_in, in_high}
use Rattle.rules.proofs.Chains.{longest}
use Rattle.rules.proofs.Matches.{forward, move_at, longest_same}
use Rattle.rules.proofs.Ways.{begins_none}
use Rattle.lexicon.specs.declared.Base.{Base}
use Rattle.lexicon.specs.declared.Base.TheVariants.{Two, Eight, Ten, Sixteen}
use Rattle.lexicon.specs.Bytes.{digits, radix}
use Rattle.lexicon.specs.Space.{Skips}
use Rattle.lexicon.specs.Values.{read, digit, value, Letter, CodeOf}
use Rattle.lexicon.proofs.Spaces.{byte_single, skips_same}
use Rattle.lexicon.proofs.Formed.{ascii}
use Rattle.lexicon.proofs.Groups.{read_length}
use Rattle.lexicon.proofs.Marks.{marked, mark_long, first_digit, angle_same}
use Rattle.lexicon.specs.Encode.{two, three, four, encode}
use Rattle.lexicon.proofs.Segments.{quote_not}
use Rattle.values.specs.QuotedBytes.{quote, backslash, not_quote, other, Angled, Item, itself, letter, number, Unescapes, closed, Copies}
use Rattle.values.specs.QuotedBytes.{SegmentBytes, plain, escaped, QuotedBytes, last}
use Rattle.values.specs.QuotedBytes as Bytes
use Rattle.values.proofs.Encodes.{encode_one}
use Rattle.values.proofs.Shapes.{code_takes}

-- ---- bytes that differ

pub other_backslash : apart other backslash ≡ true
unfolding apart apart_span
other_backslash = refl

other_quote : apart other quote ≡ true
unfolding apart apart_span
other_quote = refl

quote_backslash : apart quote backslash ≡ true
unfolding apart apart_span
quote_backslash = refl

-- a letter stands for one character, and none of them is an angle
abbrev character : ℕ → ℕ
character x =
    cond (eqb x 0x71) 0x22 (cond (eqb x 0x67) 0x60 (cond (eqb x 0x62) 0x5C (cond (eqb x 0x74) 0x09 (cond (eqb x 0x6E) 0x0A 0x0D))))

letter_is : {x c : ℕ} → Letter x c → c ≡ character x
letter_is Letter.quotation_mark = refl
letter_is Letter.grave_accent = refl
letter_is Letter.reverse_solidus = refl
letter_is Letter.tab = refl
letter_is Letter.line_feed = refl
letter_is Letter.carriage_return = refl

letter_same : {x a b : ℕ} → Letter x a → Letter x b → a ≡ b
letter_same l m = letter_is l ∙ sym (letter_is m)

pub letter_angle : {x c : ℕ} → Letter x c → x ≡ 0x3C → ⊥
letter_angle Letter.quotation_mark e = omega (arith, e)
letter_angle Letter.grave_accent e = omega (arith, e)
letter_angle Letter.reverse_solidus e = omega (arith, e)
letter_angle Letter.tab e = omega (arith, e)
letter_angle Letter.line_feed e = omega (arith, e)
letter_angle Letter.carriage_return e = omega (arith, e)

digit_ascii : (b : Base) → includes (digits b) ascii ≡ true
unfolding includes in_some
digit_ascii Two = refl
digit_ascii Eight = refl
digit_ascii Ten = refl
digit_ascii Sixteen = refl

-- a digit stands for less than 128, which is enough to see that its number takes one byte
digit_low : (b : Base) (d : ℕ) → In (digits b) d → digit d < 0x80
digit_low b d h = let x = in_high 0x00 0x7F d (includes_in (digits b) ascii d (digit_ascii b) h) in go (leb d 0x39) x
  where
    go : (o : Bool) → d ≤ 0x7F → cond o (d - 0x30) (d - 0x37) < 0x80
    go true x = omega arith
    go false x = omega arith

-- one row of bytes behind another
abbrev pub appends : {a b c d : List ℕ} → a ≡ b → c ≡ d → a ++ c ≡ b ++ d
appends p q = λ i. p i ++ q i

module _ (piece : List ℕ) where
  pub clash : (c d : Class) {i : ℕ} → apart c d ≡ true → At piece c i → At piece d i → ⊥
  clash c d {i} h a b = apart_no c d (get_or piece i 0) h a.1 b.1

  -- ---- code points

  pub code_same : {i j v w : ℕ} → CodeOf piece i j v → CodeOf piece i j w → v ≡ w
  code_same {j = j} c d =
      let m = marked piece c.base c.before (first_digit c.all_digits) in
      let e = m.only d.base d.before (first_digit d.all_digits) in
      c.value_is
      ∙ ap (λ (x : Base). value (radix x) (read piece c.start (j - c.start))) (sym e.0)
      ∙ ap (λ (y : ℕ). value (radix d.base) (read piece y (j - y))) (sym e.1)
      ∙ sym d.value_is

  abbrev pub Same : ℕ → ℕ → List ℕ → List ℕ → Type 0
  Same j k bs cs = (j ≡ k) × (bs ≡ cs)

  angled_same : {i j k : ℕ} {bs cs : List ℕ} → Angled piece i j bs → Angled piece i k cs → Same j k bs cs
  angled_same {i} a b =
      let h : b.end ≡ a.end = angle_same (code_takes piece b.code) b.close (code_takes piece a.code) a.close in
      let v = code_same a.code (subst (λ (x : ℕ). CodeOf piece i x b.number) h b.code) in
      (a.behind ∙ ap (λ (x : ℕ). x + 1) (sym h) ∙ sym b.behind, a.bytes_are ∙ ap encode v ∙ sym b.bytes_are)

  -- ---- one byte or one escape

  pub item_same : {i j k : ℕ} {bs cs : List ℕ} → Item piece i j bs → Item piece i k cs → Same j k bs cs
  item_same (itself a e p) (itself b f q) = (e ∙ sym f, p ∙ sym q)
  item_same (itself a e p) (letter b h l f q) = absurd (clash other backslash other_backslash a b)
  item_same (itself a e p) (number b g c) = absurd (clash other backslash other_backslash a b)
  item_same (letter a h l e p) (itself b f q) = absurd (clash other backslash other_backslash b a)
  item_same (letter a h l e p) (letter b g m f q) = (e ∙ sym f, p ∙ ap (λ (c : ℕ). c ∷ []) (letter_same l m) ∙ sym q)
  item_same (letter a h l e p) (number b g c) = absurd (letter_angle l (just_is 0x3C _ g.1))
  item_same (number a g c) (itself b f q) = absurd (clash other backslash other_backslash b a)
  item_same (number a g c) (letter b h l f q) = absurd (letter_angle l (just_is 0x3C _ g.1))
  item_same (number a g c) (number b f d) = angled_same c d

  pub item_quote : {i j : ℕ} {bs : List ℕ} → At piece quote i → Item piece i j bs → ⊥
  item_quote q (itself a e p) = clash other quote other_quote a q
  item_quote q (letter a h l e p) = clash quote backslash quote_backslash q a
  item_quote q (number a g c) = clash quote backslash quote_backslash q a

  -- ---- the rest of a segment

  rest_same : {i m j k : ℕ} {bs cs : List ℕ} → Unescapes piece i j bs → Unescapes piece m k cs → i ≡ m → Same j k bs cs
  rest_same (closed a e) (closed b f) p = (omega (arith, e, f, p), refl)
  rest_same (closed a e) (Bytes.next t u) p = absurd (item_quote (move_at piece quote p a) t)
  rest_same (Bytes.next t u) (closed b f) p = absurd (item_quote (move_at piece quote (sym p) b) t)
  rest_same (Bytes.next t u) (Bytes.next {m = y} {bs = bs} v w) p =
      let s = item_same t (subst (λ (z : ℕ). Item piece z y bs) (sym p) v) in
      let r = rest_same u w s.0 in
      (r.0, appends s.1 r.1)

  copies_same : {i j k : ℕ} {bs cs : List ℕ} → Copies piece i j bs → Copies piece i k cs → Same j k bs cs
  copies_same {i} c d =
      let f : (e : ℕ) → At piece quote e → Fails piece (one not_quote) e = λ e a. begins_none piece quote (one not_quote) quote_not a in
      let h : c.end ≡ d.end =
      longest_same (longest (byte_single not_quote) c.content (f _ c.close)) (longest (byte_single not_quote) d.content (f _ d.close)) in
      (c.behind ∙ ap (λ (x : ℕ). x + 1) h ∙ sym d.behind, c.bytes_are ∙ ap (λ (x : ℕ). read piece i (x - i)) h ∙ sym d.bytes_are)

  pub segment_same : {i j k : ℕ} {bs cs : List ℕ} → SegmentBytes piece i j bs → SegmentBytes piece i k cs → Same j k bs cs
  segment_same (plain q n c) (plain r m d) = copies_same c d
  segment_same (plain q n c) (escaped r b u) = absurd (n b)
  segment_same (escaped q b u) (plain r n c) = absurd (n b)
  segment_same (escaped q b u) (escaped r c v) = rest_same u v refl

  pub segment_begins : {i j : ℕ} {bs : List ℕ} → SegmentBytes piece i j bs → At piece quote i
  segment_begins (plain q n c) = q
  segment_begins (escaped q b u) = q

  pub quoted_begins : {i : ℕ} {bs : List ℕ} → QuotedBytes piece i bs → At piece quote i
  quoted_begins (last s e) = segment_begins s
  quoted_begins (Bytes.next s p q) = segment_begins s

  -- a segment at the end is the last
  pub no_further_lem : {m k : ℕ} {bs : List ℕ} → m ≡ length piece → Skips piece m k → QuotedBytes piece k bs → ⊥
  no_further_lem e s q = omega (arith, e, forward s.takes, (quoted_begins q).0)

  moved : {i k j : ℕ} {bs : List ℕ} → i ≡ k → SegmentBytes piece k j bs → SegmentBytes piece i j bs
  moved {j = j} {bs = bs} p s = subst (λ (x : ℕ). SegmentBytes piece x j bs) (sym p) s

  pub quoted_same : {i k : ℕ} {bs cs : List ℕ} → QuotedBytes piece i bs → QuotedBytes piece k cs → i ≡ k → bs ≡ cs
  quoted_same (last s e) (last t f) p = (segment_same s (moved p t)).1
  quoted_same (last s e) (Bytes.next t u q) p = absurd (no_further_lem (sym (segment_same s (moved p t)).0 ∙ e) u q)
  quoted_same (Bytes.next s u q) (last t f) p = absurd (no_further_lem ((segment_same s (moved p t)).0 ∙ f) u q)
  quoted_same (Bytes.next s u q) (Bytes.next {k = k} t v r) p =
      let x = segment_same s (moved p t) in
      let y = quoted_same q r (skips_same u (subst (λ (z : ℕ). Skips piece z k) (sym x.0) v)) in
      appends x.1 y

  -- ---- no more bytes than its own

  encode_short : (c : ℕ) → length (encode c) ≤ 4
  unfolding encode
  encode_short c = go (ltb c 0x80) (ltb c 0x800) (ltb c 0x10000)
    where
      go : (o p q : Bool) → length (cond o (c ∷ []) (cond p (two c) (cond q (three c) (four c)))) ≤ 4
      go true p q = omega arith
      go false true q = omega arith
      go false false true = omega arith
      go false false false = omega arith

  -- `0c` and one digit stand for one byte, and with a second digit they are four, which is enough for any
  pub code_short : {i j v : ℕ} → CodeOf piece i j v → i + length (encode v) ≤ j
  code_short {i} {j} {v} c = go (mark_long piece c.base c.before) c.all_digits c.value_is
    where
      go : {s : ℕ} → i + 2 ≤ s → Takes piece (plus (one (digits c.base))) s j → v ≡ value (radix c.base) (read piece s (j - s)) →
          i + length (encode v) ≤ j
      go {s} h (both (byte a e) (stop f)) g =
          let n : j - s ≡ 1 = omega (arith, e, f) in
          let w : v ≡ 0 * radix c.base + digit (get_or piece s 0) = g ∙ ap (λ (k : ℕ). value (radix c.base) (read piece s k)) n in
          omega (arith, h, e, f, ap length (encode_one v (omega (arith, w, digit_low c.base (get_or piece s 0) a.1))))
      go h (both (byte a e) (more (byte b f) u)) g = omega (arith, h, e, f, forward u, encode_short v)

  pub angled_short : {i j : ℕ} {bs : List ℕ} → Angled piece i j bs → (i + length bs ≤ j) × (j ≤ length piece)
  angled_short a =
      (omega (arith, code_short a.code, a.behind, ap length a.bytes_are), omega (arith, a.behind, a.close.0))

  pub item_short : {i j : ℕ} {bs : List ℕ} → Item piece i j bs → (i + length bs ≤ j) × (j ≤ length piece) × (i < j)
  item_short (itself a e p) = (omega (arith, e, ap length p), omega (arith, e, a.0), omega (arith, e))
  item_short (letter a h l e p) = (omega (arith, e, ap length p), omega (arith, e, h), omega (arith, e))
  item_short (number a g c) = let x = angled_short c in (omega (arith, x.0), x.1, omega (arith, x.0))

  pub rest_short : {i j : ℕ} {bs : List ℕ} → Unescapes piece i j bs → (i + length bs ≤ j) × (j ≤ length piece)
  rest_short (closed a e) = (omega (arith, e), omega (arith, e, a.0))
  rest_short (Bytes.next {bs = bs} {cs = cs} t u) =
      let x = item_short t in let y = rest_short u in (omega (arith, x.0, y.0, length-append bs cs), y.1)

  pub copies_short : {i j : ℕ} {bs : List ℕ} → Copies piece i j bs → (i + length bs ≤ j) × (j ≤ length piece)
  copies_short {i} c =
      (omega (arith, forward c.content, c.behind, ap length c.bytes_are, read_length piece i (c.end - i)), omega (arith, c.behind, c.close.0))

  pub segment_short : {i j : ℕ} {bs : List ℕ} → SegmentBytes piece i j bs → (i + length bs ≤ j) × (j ≤ length piece) × (i < j)
  segment_short (plain q n c) = let x = copies_short c in (omega (arith, x.0), x.1, omega (arith, x.0))
  segment_short (escaped q b u) = let x = rest_short u in (omega (arith, x.0), x.1, omega (arith, x.0))

  pub quoted_short : {i : ℕ} {bs : List ℕ} → QuotedBytes piece i bs → i + length bs ≤ length piece
  quoted_short (last s e) = let x = segment_short s in omega (arith, x.0, x.1)
  quoted_short (Bytes.next {bs = bs} {cs = cs} s u q) =
      omega (arith, (segment_short s).0, forward u.takes, quoted_short q, length-append bs cs)
