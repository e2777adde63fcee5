-- The characters of a quoted text, encoded, are the bytes that it stands for. Assumes nothing.
use mathlib.Core.Path.{◌≡◌, refl, sym, ap, subst, ◌∙◌}
use mathlib.Core.Bool.{true}
use mathlib.Core.List.{List, [], ◌∷◌, ◌++◌, append_assoc}
use Prim.Native.Nat.{ℕ, zero, suc, ◌+◌, ◌-◌, ◌≤◌, ◌<◌}
use native.Mathlib.Omega.{arith}
use lib.ListN.{length, get_or}
use Rattle.rules.specs.Rule.{one, many, At, Takes, byte, both, stop, more}
use Rattle.rules.proofs.Bounds.{all_of, all_of_lem}
use Rattle.rules.proofs.Classes.{includes, in_some, in_high}
use Rattle.rules.proofs.Chains.{join}
use Rattle.rules.proofs.Matches.{forward, starting, move_at}
use Rattle.lexicon.specs.Literals.{unescaped, restricted, word}
use Rattle.lexicon.specs.Values.{read, Letter, CodeOf, Plain, Escaped, Row, done, Segment, Quoted, last_segment, next_segment}
use Rattle.lexicon.specs.Values as Values
use Rattle.lexicon.specs.Bad.{Scalar}
use Rattle.lexicon.proofs.Formed.{ascii}
use Rattle.lexicon.proofs.Spaces.{landed}
use Rattle.lexicon.specs.Encode.{encode, encoded}
use Rattle.lexicon.proofs.Segments.{quote_blank}
use Rattle.values.specs.QuotedBytes.{quote, backslash, not_quote, other, itself, letter, number, Unescapes, closed, SegmentBytes, plain}
use Rattle.values.specs.QuotedBytes.{escaped, QuotedBytes, last}
use Rattle.values.specs.QuotedBytes as Bytes
use Rattle.values.proofs.Encodes.{encode_one, written_one}
use Rattle.values.proofs.Sequences.{unescaped_written, restricted_written}
use Rattle.values.proofs.Spelled.{appends, quoted_begins}

-- every character is a scalar value
abbrev pub Scalars : List ℕ → Type 0
Scalars [] = Unit {0}
Scalars (c ∷ cs) = Scalar c × Scalars cs

pub scalars_left : (cs ds : List ℕ) → Scalars (cs ++ ds) → Scalars cs
scalars_left [] ds s = tt
scalars_left (c ∷ cs) ds s = (s.0, scalars_left cs ds s.1)

pub scalars_right : (cs ds : List ℕ) → Scalars (cs ++ ds) → Scalars ds
scalars_right [] ds s = s
scalars_right (c ∷ cs) ds s = scalars_right cs ds s.1

pub scalars_both : (cs ds : List ℕ) → Scalars cs → Scalars ds → Scalars (cs ++ ds)
scalars_both [] ds s t = t
scalars_both (c ∷ cs) ds s t = (s.0, scalars_both cs ds s.1 t)

encoded_append : (cs ds : List ℕ) → encoded cs ++ encoded ds ≡ encoded (cs ++ ds)
encoded_append [] ds = refl
encoded_append (c ∷ cs) ds =
    append_assoc (encode c) (encoded cs) (encoded ds) ∙ ap (λ (l : List ℕ). encode c ++ l) (encoded_append cs ds)

restricted_bytes : all_of not_quote restricted ≡ true
unfolding includes in_some
restricted_bytes = refl

unescaped_bytes : all_of other unescaped ≡ true
unfolding includes in_some
unescaped_bytes = refl

word_bytes : all_of ascii word ≡ true
unfolding includes in_some
word_bytes = refl

letter_low : {x c : ℕ} → Letter x c → c < 0x80
letter_low Letter.quotation_mark = omega arith
letter_low Letter.grave_accent = omega arith
letter_low Letter.reverse_solidus = omega arith
letter_low Letter.tab = omega arith
letter_low Letter.line_feed = omega arith
letter_low Letter.carriage_return = omega arith

module _ (piece : List ℕ) where
  read_join : (i n k : ℕ) → read piece i n ++ read piece (i + n) k ≡ read piece i (n + k)
  read_join i zero k =
      let p : i + 0 ≡ i = omega arith in
      let q : k ≡ 0 + k = omega arith in
      ap (λ (x : ℕ). read piece x k) p ∙ ap (λ (x : ℕ). read piece i x) q
  read_join i (suc n) k =
      let p : i + suc n ≡ i + 1 + n = omega arith in
      let q : suc (n + k) ≡ suc n + k = omega arith in
      ap (λ (l : List ℕ). get_or piece i 0 ∷ l) (ap (λ (x : ℕ). read piece (i + 1) n ++ read piece x k) p ∙ read_join (i + 1) n k)
      ∙ ap (λ (x : ℕ). read piece i x) q

  between : (i m j : ℕ) → i ≤ m → m ≤ j → read piece i (m - i) ++ read piece m (j - m) ≡ read piece i (j - i)
  between i m j h g =
      let p : m ≡ i + (m - i) = omega arith in
      let q : m - i + (j - m) ≡ j - i = omega arith in
      ap (λ (x : ℕ). read piece i (m - i) ++ read piece x (j - m)) p ∙ read_join i (m - i) (j - m) ∙ ap (λ (x : ℕ). read piece i x) q

  nothing_between : (i j : ℕ) → i ≡ j → [] ≡ read piece i (j - i)
  nothing_between i j e = let h : 0 ≡ j - i = omega arith in ap (λ (n : ℕ). read piece i n) h

  -- ---- a segment without escapes

  pub plain_row : {i j : ℕ} {cs : List ℕ} → Row piece (Plain piece) i j cs →
      Takes piece (many (one not_quote)) i j × (encoded cs ≡ read piece i (j - i))
  plain_row (done {i = i}) = (stop refl, nothing_between i i refl)
  plain_row (Values.next {i = i} {m = m} {j = j} (Plain.itself t) r) =
      let x = plain_row r in (
        join (all_of_lem not_quote t restricted_bytes) x.0,
        appends (restricted_written piece t).bytes_are x.1 ∙ between i m j (forward t) (forward x.0),
      )

  -- ---- one with escapes

  bytes_first : {i m j : ℕ} {bs : List ℕ} → Takes piece (many (one other)) i m → Unescapes piece m j bs →
      Unescapes piece i j (read piece i (m - i) ++ bs)
  bytes_first {i} {m} {j} {bs} (stop e) u =
      subst (λ (l : List ℕ). Unescapes piece i j (l ++ bs)) (nothing_between i m e) (subst (λ (x : ℕ). Unescapes piece x j bs) (sym e) u)
  bytes_first {i} {m} {j} {bs} (more {m = n} (byte a e) t) u =
      let w : Unescapes piece i j ((get_or piece i 0 ∷ []) ++ (read piece n (m - n) ++ bs)) = Bytes.next (itself a e refl) (bytes_first t u) in
      let h : 1 ≡ n - i = omega arith in
      let p : get_or piece i 0 ∷ read piece n (m - n) ≡ read piece i (m - i) =
      ap (λ (x : ℕ). read piece i x ++ read piece n (m - n)) h ∙ between i n m (omega arith) (forward t) in
      subst (λ (l : List ℕ). Unescapes piece i j (l ++ bs)) p w

  pub escaped_row : {i j e : ℕ} {cs : List ℕ} → Row piece (Escaped piece) i e cs → Scalars cs → At piece quote e → j ≡ e + 1 →
      Unescapes piece i j (encoded cs)
  escaped_row done s q h = closed q h
  escaped_row {i} {j} (Values.next {m = m} {cs = cs} (Escaped.itself t) r) s q h =
      subst (λ (l : List ℕ). Unescapes piece i j (l ++ encoded cs)) (sym (unescaped_written piece t).bytes_are)
      (bytes_first (all_of_lem other t unescaped_bytes) (escaped_row r s.1 q h))
  escaped_row (Values.next {m = k} (Escaped.letter {m = m} {c = c} (byte a e) l (byte b f)) r) s q h =
      Bytes.next {m = k}
      (letter a (omega (arith, e, b.0)) (subst (λ (x : ℕ). Letter (get_or piece x 0) c) e l) (omega (arith, e, f)) (sym (encode_one c (letter_low l))))
      (escaped_row r s.1 q h)
  escaped_row (Values.next {i = i} {m = n} (Escaped.number {m = m} {e = e} {v = v} (both (byte a f) (byte b g)) c (byte d k)) r) s q h =
      let p : m ≡ i + 2 = omega (arith, f, g) in
      Bytes.next {m = n}
      (number a (move_at piece _ f b)
      (record {
        end = e;
        number = v;
        code = subst (λ (x : ℕ). CodeOf piece x e v) p c;
        scalar = s.0;
        close = d;
        behind = k;
        bytes_are = refl;
      }))
      (escaped_row r s.1 q h)

  -- ---- the text

  pub segment_bytes : {i j : ℕ} {cs : List ℕ} → Segment piece i j cs → Scalars cs → SegmentBytes piece i j (encoded cs)
  segment_bytes (Segment.plain {i = i} {m = m} {e = x} (byte a e) n r (byte b f)) s =
      let y = plain_row r in
      plain a (λ w. n (move_at piece backslash (sym e) w).1)
      (record {
        end = x;
        content = starting e y.0;
        close = b;
        behind = f;
        bytes_are = y.1 ∙ ap (λ (k : ℕ). read piece k (x - k)) e;
      })
  segment_bytes (Segment.escaped {i = i} {m = m} {j = j} {cs = cs} (both (byte a e) (byte b f)) r (byte c g)) s =
      let h : m ≡ i + 2 = omega (arith, e, f) in
      escaped a (move_at piece backslash e b) (subst (λ (x : ℕ). Unescapes piece x j (encoded cs)) h (escaped_row r s c g))

  pub quoted_bytes_lem : {i j : ℕ} {cs : List ℕ} → Quoted piece i j cs → Scalars cs → j ≡ length piece → QuotedBytes piece i (encoded cs)
  quoted_bytes_lem (last_segment t) s e = last (segment_bytes t s) e
  quoted_bytes_lem (next_segment {i = i} {cs = cs} {ds = ds} t p u) s e =
      let q = quoted_bytes_lem u (scalars_right cs ds s) e in
      subst (λ (l : List ℕ). QuotedBytes piece i l) (encoded_append cs ds)
      (Bytes.next (segment_bytes t (scalars_left cs ds s)) (landed quote quote_blank p (quoted_begins piece q)) q)

  -- ---- a word is its own bytes

  ascii_same : {i j : ℕ} → Takes piece (many (one ascii)) i j → (n : ℕ) → i + n ≡ j →
      (encoded (read piece i n) ≡ read piece i n) × Scalars (read piece i n)
  ascii_same t zero e = (refl, tt)
  ascii_same (stop d) (suc n) e = absurd (omega (arith, d, e))
  ascii_same {i} (more (byte a f) t) (suc n) e =
      let x = ascii_same {i = i + 1} (starting f t) n (omega (arith, e)) in
      let w = written_one (get_or piece i 0) (in_high 0x00 0x7F _ a.1) in
      (appends w.bytes_are x.0, (w.is_scalar, x.1))

  pub word_same : {i j : ℕ} → Takes piece word i j → (encoded (read piece i (j - i)) ≡ read piece i (j - i)) × Scalars (read piece i (j - i))
  word_same {i} {j} t = ascii_same (all_of_lem ascii t word_bytes) (j - i) (omega (arith, forward t))
