-- What each way through the code of a quoted text says of what is read and written. Assumes nothing.
use mathlib.Core.Path.{◌≡◌, refl, sym, ap, subst, subst⁻¹, ◌∙◌}
use mathlib.Core.Bool.{Bool, not}
use mathlib.Core.Logic.{◌⊎◌, inl, inr}
use mathlib.Core.List.{List, [], ◌∷◌, ◌++◌, append_assoc}
use Prim.Native.Nat.{ℕ, ◌+◌, ◌-◌, ◌≤◌, ◌<◌, min}
use native.Mathlib.Nat.{le_antisymm}
use native.Mathlib.Omega.{arith}
use lib.ListN.{length, get_or, take, drop}
use Rattle.std.proofs.Math.Dec.{eqb}
use Rattle.rules.specs.Class.{just, has}
use Rattle.rules.specs.Rule.{one, many, At, Takes, Longest, Fails}
use Rattle.rules.proofs.Bools.{below}
use Rattle.rules.proofs.Classes.{is_just, just_is}
use Rattle.rules.proofs.Chains.{longest}
use Rattle.rules.proofs.Matches.{forward, longest_same}
use Rattle.rules.proofs.Ways.{begins_none}
use Rattle.lexicon.specs.Limited.{limit}
use Rattle.lexicon.specs.Literals.{code_point_of}
use Rattle.lexicon.specs.Space.{Skips}
use Rattle.lexicon.specs.Values.{read, Letter, CodeOf}
use Rattle.lexicon.specs.Bad.{Scalar}
use Rattle.lexicon.proofs.Spaces.{byte_single, skips_same}
use Rattle.lexicon.proofs.Marks.{angle_most}
use Rattle.lexicon.specs.Encode.{encode}
use Rattle.lexicon.proofs.Segments.{quote_not}
use Rattle.text_value.specs.Parts.{CodeIs, Stands, Wrote, HasQuoted, WroteQuoted}
use Rattle.values.specs.QuotedBytes.{quote, backslash, not_quote, other, Angled, Item, itself, letter, number, Unescapes}
use Rattle.values.specs.QuotedBytes.{closed, Copies, SegmentBytes, plain, escaped, QuotedBytes, last}
use Rattle.values.specs.QuotedBytes as Bytes
use Rattle.values.proofs.Shapes.{code_takes}
use Rattle.values.proofs.Spelled.{letter_angle, other_backslash, clash, item_same, item_quote, item_short}
use Rattle.values.proofs.Spelled.{segment_begins, segment_same, segment_short, no_further_lem}
use Rattle.buffer.specs.declared.Writer.{Writer}
use Rattle.buffer.specs.Appends.{Appends}
use Rattle.buffer.proofs.Appending.{appends_none, appends_same, appends_then}
use Rattle.text_value.proofs.Copies.{part_read}

-- ---- letters

pub letter_as : {b x c d : ℕ} → Letter x c → b ≡ x → d ≡ c → Letter b d
letter_as {b} {c = c} l e f = subst⁻¹ (λ (y : ℕ). Letter b y) f (subst⁻¹ (λ (y : ℕ). Letter y c) e l)

pub append_none : (l : List ℕ) → l ++ [] ≡ l
append_none [] = refl
append_none (x ∷ l) = ap (λ (m : List ℕ). x ∷ m) (append_none l)

module _ (piece : List ℕ) where
  -- ---- a code point in angles

  module _ {i e : ℕ} (s : Stands (Angled piece) i) (l : Longest piece code_point_of i e) where
    angled_end : e ≡ s.is.end
    angled_end =
        let t = code_takes piece s.is.code in le_antisymm (angle_most t s.is.close l.takes) (l.most t)

    pub angled_within : e < length piece
    angled_within = omega (arith, angled_end, s.is.close.0)

    module _ {r : ℕ} (c : CodeIs piece i e r) where
      angled_number : r ≡ s.is.number
      angled_number =
          c.is s.is.number (subst (λ (x : ℕ). CodeOf piece i x s.is.number) (sym angled_end) s.is.code)
          ∙ within s.is.scalar
        where
          within : {v : ℕ} → Scalar v → min limit v ≡ v
          within (inl h) = omega arith
          within (inr h) = omega arith

      pub angled_fits : r < 0x110000
      angled_fits = go s.is.scalar angled_number
        where
          go : {v : ℕ} → Scalar v → r ≡ v → r < 0x110000
          go (inl h) e = omega arith
          go (inr h) e = omega arith

      pub angled_wrote : {u v : Writer} → Appends u (encode r) v → Wrote (Angled piece) i (e + 1) u v
      angled_wrote a =
          record {
            bytes = encode r;
            is =
                record {
                  end = s.is.end;
                  number = s.is.number;
                  code = s.is.code;
                  scalar = s.is.scalar;
                  close = s.is.close;
                  behind = ap (λ (x : ℕ). x + 1) angled_end;
                  bytes_are = ap encode angled_number;
                };
            appends = a;
          }

  pub angled_none : {i : ℕ} → Stands (Angled piece) i → Fails piece code_point_of i → ⊥
  angled_none s f = f.none (code_takes piece s.is.code)

  -- ---- an escape

  abbrev Rest : ℕ → Type 0
  Rest i = (i + 1 < length piece) × (((c : ℕ) × Letter (get_or piece (i + 1) 0) c) ⊎ (At piece (just 0x3C) (i + 1) × Stands (Angled piece) (i + 2)))

  escape_rest : {i : ℕ} → Stands (Item piece) i → At piece backslash i → Rest i
  escape_rest {i} s a = go s.is
    where
      go : {j : ℕ} {bs : List ℕ} → Item piece i j bs → Rest i
      go (itself b e p) = absurd (clash piece other backslash other_backslash b a)
      go (letter b h l e p) = (h, inl (_, l))
      go (number b g c) = (g.0, inr (g, record { end = _; bytes = _; is = c }))

  module _ {i : ℕ} (s : Stands (Item piece) i) (a : At piece backslash i) where
    pub escape_within : i + 1 < length piece
    escape_within = (escape_rest s a).0

    pub escape_angled : get_or piece (i + 1) 0 ≡ 0x3C → Stands (Angled piece) (i + 2)
    escape_angled e = go (escape_rest s a).1
      where
        go : ((c : ℕ) × Letter (get_or piece (i + 1) 0) c) ⊎ (At piece (just 0x3C) (i + 1) × Stands (Angled piece) (i + 2)) →
            Stands (Angled piece) (i + 2)
        go (inl l) = absurd (letter_angle l.1 e)
        go (inr x) = x.1

    -- it is a letter or the angle
    pub escape_none : let b = get_or piece (i + 1) 0 in (b ≡ 0x71 → ⊥) → (b ≡ 0x67 → ⊥) → (b ≡ 0x62 → ⊥) → (b ≡ 0x74 → ⊥) → (b ≡ 0x6E → ⊥) →
        (b ≡ 0x72 → ⊥) → (b ≡ 0x3C → ⊥) → ⊥
    escape_none n1 n2 n3 n4 n5 n6 n7 = go (escape_rest s a).1
      where
        no_letter : {x c : ℕ} → Letter x c → get_or piece (i + 1) 0 ≡ x → ⊥
        no_letter Letter.quotation_mark e = n1 e
        no_letter Letter.grave_accent e = n2 e
        no_letter Letter.reverse_solidus e = n3 e
        no_letter Letter.tab e = n4 e
        no_letter Letter.line_feed e = n5 e
        no_letter Letter.carriage_return e = n6 e

        go : ((c : ℕ) × Letter (get_or piece (i + 1) 0) c) ⊎ (At piece (just 0x3C) (i + 1) × Stands (Angled piece) (i + 2)) → ⊥
        go (inl l) = no_letter l.1 refl
        go (inr x) = n7 (just_is 0x3C _ x.0.1)

    pub letter_wrote : {c : ℕ} → Letter (get_or piece (i + 1) 0) c → {u v : Writer} → Appends u (c ∷ []) v →
        Wrote (Item piece) i (i + 2) u v
    letter_wrote l p = record { bytes = _; is = letter a escape_within l refl refl; appends = p }

    pub number_wrote : get_or piece (i + 1) 0 ≡ 0x3C → {j : ℕ} {u v : Writer} → Wrote (Angled piece) (i + 2) j u v →
        Wrote (Item piece) i j u v
    number_wrote e w = record { bytes = w.bytes; is = number a (escape_within, is_just 0x3C _ e) w.is; appends = w.appends }

  -- ---- the next quote

  pub at_quote : {i j : ℕ} → Takes piece (many (one not_quote)) i j → j < length piece → get_or piece j 0 ≡ 0x22 →
      Longest piece (many (one not_quote)) i j
  at_quote t h e = longest (byte_single not_quote) t (begins_none piece quote (one not_quote) quote_not (h, is_just 0x22 _ e))

  -- ---- a walk over the rest of an escaped segment: what is written, and what is left

  module _ (at : ℕ) (u : Writer) where
    pub record Walk (v : Writer) (i : ℕ) : Type 0 where
      pub end : ℕ
      pub whole : List ℕ
      pub whole_is : Unescapes piece at end whole
      pub rest : List ℕ
      pub rest_is : Unescapes piece i end rest
      pub done : List ℕ
      pub so_far : done ++ rest ≡ whole
      pub appends : Appends u done v

    pub walk_begins : Stands (Unescapes piece) at → Walk u at
    walk_begins s =
        record {
          end = s.end;
          whole = s.bytes;
          whole_is = s.is;
          rest = s.bytes;
          rest_is = s.is;
          done = [];
          so_far = refl;
          appends = appends_none u;
        }

    module _ {v : Writer} {i : ℕ} (w : Walk v i) where
      pub walk_within : i < length piece
      walk_within = go w.rest_is
        where
          go : {j : ℕ} {bs : List ℕ} → Unescapes piece i j bs → i < length piece
          go (closed a e) = a.0
          go (Bytes.next x u) = let y = item_short piece x in omega (arith, y.1, y.2)

      pub walk_item : (At piece quote i → ⊥) → Stands (Item piece) i
      walk_item n = go w.rest_is
        where
          go : {j : ℕ} {bs : List ℕ} → Unescapes piece i j bs → Stands (Item piece) i
          go (closed a e) = absurd (n a)
          go (Bytes.next x u) = record { end = _; bytes = _; is = x }

      pub walk_byte : (At piece quote i → ⊥) → (At piece backslash i → ⊥) → {x : Writer} →
          Appends v (get_or piece i 0 ∷ []) x → Wrote (Item piece) i (i + 1) v x
      walk_byte q b p = record { bytes = _; is = go (walk_item q).is; appends = p }
        where
          go : {j : ℕ} {bs : List ℕ} → Item piece i j bs → Item piece i (i + 1) (get_or piece i 0 ∷ [])
          go (itself a e p) = itself a refl refl
          go (letter a h l e p) = absurd (b a)
          go (number a g c) = absurd (b a)

      pub walk_next : (At piece quote i → ⊥) → {j : ℕ} {x : Writer} → Wrote (Item piece) i j v x → Walk x j
      walk_next q {j} {x} y = go w.rest_is w.so_far
        where
          go : {rest : List ℕ} → Unescapes piece i w.end rest → w.done ++ rest ≡ w.whole → Walk x j
          go (closed a e) s = absurd (q a)
          go (Bytes.next {bs = bs} {cs = cs} z r) s =
              let same = item_same piece y.is z in
              record {
                end = w.end;
                whole = w.whole;
                whole_is = w.whole_is;
                rest = cs;
                rest_is = subst (λ (k : ℕ). Unescapes piece k w.end cs) (sym same.0) r;
                done = w.done ++ y.bytes;
                so_far =
                    append_assoc w.done y.bytes cs
                    ∙ ap (λ (l : List ℕ). w.done ++ (l ++ cs)) same.1
                    ∙ s;
                appends = appends_then w.appends y.appends;
              }

      pub walk_ends : At piece quote i → Wrote (Unescapes piece) at (i + 1) u v
      walk_ends q = go w.rest_is w.so_far
        where
          go : {rest : List ℕ} → Unescapes piece i w.end rest → w.done ++ rest ≡ w.whole → Wrote (Unescapes piece) at (i + 1) u v
          go (closed a e) s =
              record {
                bytes = w.whole;
                is = subst (λ (k : ℕ). Unescapes piece at k w.whole) e w.whole_is;
                appends = appends_same (sym (append_none w.done) ∙ s) w.appends;
              }
          go (Bytes.next y r) s = absurd (item_quote piece q y)

  -- ---- characters that are themselves

  module _ {i e : ℕ} (s : Stands (Copies piece) i) (l : Longest piece (many (one not_quote)) i e) where
    copies_end : e ≡ s.is.end
    copies_end = longest_same l (at_quote s.is.content s.is.close.0 (just_is 0x22 _ s.is.close.1))

    pub copies_within : (i ≤ e) × (e < length piece)
    copies_within = (forward l.takes, omega (arith, copies_end, s.is.close.0))

    pub copies_wrote : {u v : Writer} → Appends u (take (e - i) (drop i piece)) v → Wrote (Copies piece) i (e + 1) u v
    copies_wrote p =
        record {
          bytes = read piece i (e - i);
          is =
              record {
                end = s.is.end;
                content = s.is.content;
                close = s.is.close;
                behind = ap (λ (x : ℕ). x + 1) copies_end;
                bytes_are = ap (λ (x : ℕ). read piece i (x - i)) copies_end;
              };
          appends = appends_same (part_read piece i (e - i) (omega (arith, copies_within))) p;
        }

  -- ---- a segment

  module _ {i : ℕ} (s : Stands (SegmentBytes piece) i) where
    opening : At piece quote i
    opening = segment_begins piece s.is

    pub plain_stands : (At piece backslash (i + 1) → ⊥) → Stands (Copies piece) (i + 1)
    plain_stands n = go s.is
      where
        go : {j : ℕ} {bs : List ℕ} → SegmentBytes piece i j bs → Stands (Copies piece) (i + 1)
        go (plain q m c) = record { end = _; bytes = _; is = c }
        go (escaped q b u) = absurd (n b)

    pub plain_wrote : (At piece backslash (i + 1) → ⊥) → {j : ℕ} {u v : Writer} → Wrote (Copies piece) (i + 1) j u v →
        Wrote (SegmentBytes piece) i j u v
    plain_wrote n w = record { bytes = w.bytes; is = plain opening n w.is; appends = w.appends }

  -- ---- a walk over the segments

  module _ (u : Writer) where
    pub record Walks (v : Writer) (i : ℕ) : Type 0 where
      pub whole : List ℕ
      pub whole_is : QuotedBytes piece 0 whole
      pub rest : List ℕ
      pub rest_is : QuotedBytes piece i rest
      pub done : List ℕ
      pub so_far : done ++ rest ≡ whole
      pub appends : Appends u done v

    pub walks_begin : HasQuoted piece → Walks u 0
    walks_begin h =
        record {
          whole = h.bytes;
          whole_is = h.is;
          rest = h.bytes;
          rest_is = h.is;
          done = [];
          so_far = refl;
          appends = appends_none u;
        }

    module _ {v : Writer} {i : ℕ} (w : Walks v i) where
      pub walks_segment : Stands (SegmentBytes piece) i
      walks_segment = go w.rest_is
        where
          go : {bs : List ℕ} → QuotedBytes piece i bs → Stands (SegmentBytes piece) i
          go (last s e) = record { end = _; bytes = _; is = s }
          go (Bytes.next s p q) = record { end = _; bytes = _; is = s }

      module _ {j : ℕ} {x : Writer} (y : Wrote (SegmentBytes piece) i j v x) where
        pub walks_less : {k : ℕ} → Skips piece j k → (i < k) × (i < length piece)
        walks_less s = let z = segment_short piece y.is in (omega (arith, z.2, forward s.takes), (opening walks_segment).0)

        pub walks_end : j ≡ length piece → WroteQuoted piece u x
        walks_end e = go w.rest_is w.so_far
          where
            go : {rest : List ℕ} → QuotedBytes piece i rest → w.done ++ rest ≡ w.whole → WroteQuoted piece u x
            go (last s f) p =
                record {
                  bytes = w.whole;
                  is = w.whole_is;
                  appends = appends_same (ap (λ (l : List ℕ). w.done ++ l) (segment_same piece y.is s).1 ∙ p) (appends_then w.appends y.appends);
                }
            go (Bytes.next s g q) p = absurd (no_further_lem piece (sym (segment_same piece y.is s).0 ∙ e) g q)

        pub walks_next : {k : ℕ} → (j ≡ length piece → ⊥) → Skips piece j k → Walks x k
        walks_next {k} n g = go w.rest_is w.so_far
          where
            go : {rest : List ℕ} → QuotedBytes piece i rest → w.done ++ rest ≡ w.whole → Walks x k
            go (last s f) p = absurd (n ((segment_same piece y.is s).0 ∙ f))
            go (Bytes.next {k = l} {cs = cs} s h q) p =
                let z = segment_same piece y.is s in
                let e = skips_same h (subst (λ (m : ℕ). Skips piece m k) z.0 g) in
                record {
                  whole = w.whole;
                  whole_is = w.whole_is;
                  rest = cs;
                  rest_is = subst (λ (m : ℕ). QuotedBytes piece m cs) e q;
                  done = w.done ++ y.bytes;
                  so_far = append_assoc w.done y.bytes cs ∙ ap (λ (m : List ℕ). w.done ++ (m ++ cs)) z.1 ∙ p;
                  appends = appends_then w.appends y.appends;
                }
