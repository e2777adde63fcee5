-- A walk over a literal's units: the bytes so far have the bits of the digits so far. Assumes nothing.
use mathlib.Core.Path.{◌≡◌, refl, sym, ap, subst, ◌∙◌}
use mathlib.Core.List.{List, [], ◌++◌, map, map-append, foldl, append_assoc, append-nil}
use Prim.Native.Nat.{ℕ, zero, suc, ◌+◌, ◌*◌, ◌^◌, ◌≤◌, ◌<◌}
use native.Mathlib.Decide.{ℕ_discrete}
use native.Mathlib.Omega.{arith}
use lib.ListN.{length, get_or, length-append}
use Rattle.rules.specs.Class.{In, byte_of}
use Rattle.rules.specs.Every.{Every, none, also}
use Rattle.rules.specs.Rule.{opt, At, Takes, Longest}
use Rattle.rules.proofs.Every.{every_append}
use Rattle.rules.proofs.Matches.{forward, starting}
use Rattle.lexicon.specs.declared.Base.TheVariants.{Two, Eight, Sixteen}
use Rattle.lexicon.specs.Literals.{unit, joint}
use Rattle.lexicon.specs.Expansion.{expand}
use Rattle.lexicon.specs.Values.{read, Digits, last_unit, next_unit}
use Rattle.lexicon.proofs.Groups.{Clear, unit_end, unit_byte, joint_end, digits_at, digits_forward, read_length}
use Rattle.lexicon.proofs.Numbers.{clear, clear_base64}
use Rattle.lexicon.proofs.Expansions.{expand_append}
use Rattle.lexicon.proofs.Sextets.{sextet_small, digit_small}
use Rattle.buffer.specs.declared.Writer.{Writer}
use Rattle.buffer.specs.Appends.{Appends}
use Rattle.buffer.proofs.Appending.{appends_none, appends_same, appends_then}
use Rattle.blob_value.specs.declared.mark.Mark.{Mark}
use Rattle.blob_value.specs.declared.mark.Mark.TheVariants.{BlobBinary, BlobHexadecimal, BlobBase64, BitsBinary, BitsOctal, BitsHexadecimal}
use Rattle.blob_value.specs.declared.Kind.{Kind}
use Rattle.blob_value.specs.Marks.{kind_of, digits_of, unit_of, width_of, size_of, bytes_of, value_of}
use Rattle.blob_value.specs.Spread.{with_digit, parts, Small, Units, Has, HasUnits, Counts, Spreads}
use Rattle.blob_value.proofs.Marks.{value_digit, value_pad, value_sextet}
use Rattle.blob_value.proofs.Spreads.{parts_small, unit_bits}

-- ---- the marks

pub clear_of : (m : Mark) → Clear (digits_of m)
clear_of BlobBinary = clear Two
clear_of BlobHexadecimal = clear Sixteen
clear_of BlobBase64 = clear_base64
clear_of BitsBinary = clear Two
clear_of BitsOctal = clear Eight
clear_of BitsHexadecimal = clear Sixteen

-- a unit's digits fill its bytes
pub filled : (m : Mark) → unit_of m * width_of m ≡ bytes_of m * size_of (kind_of m)
filled BlobBinary = refl
filled BlobHexadecimal = refl
filled BlobBase64 = refl
filled BitsBinary = refl
filled BitsOctal = refl
filled BitsHexadecimal = refl

pub one_at_least : (m : Mark) → (n : ℕ) × (unit_of m ≡ suc n) × (n ≤ 7)
one_at_least BlobBinary = (7, refl, omega arith)
one_at_least BlobHexadecimal = (1, refl, omega arith)
one_at_least BlobBase64 = (3, refl, omega arith)
one_at_least BitsBinary = (0, refl, omega arith)
one_at_least BitsOctal = (0, refl, omega arith)
one_at_least BitsHexadecimal = (0, refl, omega arith)

pub few_bytes : (m : Mark) → bytes_of m ≤ 4
few_bytes BlobBinary = omega arith
few_bytes BlobHexadecimal = omega arith
few_bytes BlobBase64 = omega arith
few_bytes BitsBinary = omega arith
few_bytes BitsOctal = omega arith
few_bytes BitsHexadecimal = omega arith

radix_most : (m : Mark) → 2 ^ width_of m ≤ 64
radix_most BlobBinary = omega arith
radix_most BlobHexadecimal = omega arith
radix_most BlobBase64 = omega arith
radix_most BitsBinary = omega arith
radix_most BitsOctal = omega arith
radix_most BitsHexadecimal = omega arith

-- a digit's value is below the radix
pub value_small : (m : Mark) (b : ℕ) → In (digits_of m) b → value_of (2 ^ width_of m) b < 2 ^ width_of m
value_small BlobBinary b x = omega (arith, value_digit 2 b _ (omega arith) refl, digit_small Two b x)
value_small BlobHexadecimal b x = omega (arith, value_digit 16 b _ (omega arith) refl, digit_small Sixteen b x)
value_small BitsBinary b x = omega (arith, value_digit 2 b _ (omega arith) refl, digit_small Two b x)
value_small BitsOctal b x = omega (arith, value_digit 8 b _ (omega arith) refl, digit_small Eight b x)
value_small BitsHexadecimal b x = omega (arith, value_digit 16 b _ (omega arith) refl, digit_small Sixteen b x)
value_small BlobBase64 b x = go (ℕ_discrete b (byte_of "="))
  where
    go : Dec (b ≡ byte_of "=") → value_of 64 b < 64
    go (yes e) = omega (arith, value_pad 64 b (omega arith) e)
    go (no n) = omega (arith, value_sextet 64 b _ (omega arith) n refl, sextet_small x n)

-- ---- a unit

module _ (piece : List ℕ) (mark : Mark) where
  abbrev Unit : ℕ → ℕ → Type 0
  Unit i j = Takes piece (unit (unit_of mark) (digits_of mark)) i j

  abbrev Row : ℕ → List ℕ → Type 0
  Row i ds = Digits piece (unit_of mark) (digits_of mark) i (length piece) ds

  read_values : (n i : ℕ) → ((k : ℕ) → k < n → At piece (digits_of mark) (i + k)) → Every (λ b. value_of (2 ^ width_of mark) b < 2 ^ width_of mark) (read piece i n)
  read_values zero i f = none
  read_values (suc n) i f =
      also
      (let z : i + 0 ≡ i = omega arith in value_small mark (get_or piece i 0) (subst (λ (k : ℕ). At piece (digits_of mark) k) z (f 0 (omega arith))).1)
      (read_values n (i + 1) (λ k h. let e : i + suc k ≡ i + 1 + k = omega arith in subst (λ (x : ℕ). At piece (digits_of mark) x) e (f (suc k) (omega (arith, h)))))

  unit_values : {i j : ℕ} → Unit i j → Every (λ b. value_of (2 ^ width_of mark) b < 2 ^ width_of mark) (read piece i (unit_of mark))
  unit_values {i} u = read_values (unit_of mark) i (unit_byte (unit_of mark) (digits_of mark) i u)

  -- its bytes
  abbrev pub bytes_at : ℕ → List ℕ
  bytes_at i = parts (size_of (kind_of mark)) (bytes_of mark) (foldl (with_digit (2 ^ width_of mark)) 0 (read piece i (unit_of mark)))

  bytes_at_lem : {i j : ℕ} → Unit i j → expand (size_of (kind_of mark)) (bytes_at i) ≡ expand (width_of mark) (map (value_of (2 ^ width_of mark)) (read piece i (unit_of mark)))
  bytes_at_lem {i} u =
      unit_bits (width_of mark) (size_of (kind_of mark)) (bytes_of mark) (read piece i (unit_of mark)) (unit_values u)
      (ap (λ (n : ℕ). n * width_of mark) (read_length piece i (unit_of mark)) ∙ filled mark)

  -- the sum over it, from what the functions of the mark answered
  sum_known : (i : ℕ) {sum count radix : ℕ} → sum ≡ foldl (with_digit radix) 0 (read piece i count) → count ≡ unit_of mark → radix ≡ 2 ^ width_of mark →
      sum ≡ foldl (with_digit (2 ^ width_of mark)) 0 (read piece i (unit_of mark))
  sum_known i {count = count} e f g =
      e
      ∙ ap (λ (r : ℕ). foldl (with_digit r) 0 (read piece i count)) g
      ∙ ap (λ (n : ℕ). foldl (with_digit (2 ^ width_of mark)) 0 (read piece i n)) f

  first_unit : {i : ℕ} {ds : List ℕ} → Row i ds → (j : ℕ) × Unit i j
  first_unit (last_unit u) = (_, u)
  first_unit (next_unit u s d) = (_, u)

  -- the units behind one begin where its joint ends
  next_row : {i m l k : ℕ} {ds : List ℕ} → Unit i m → Takes piece (opt joint) m l → Row l ds → Longest piece (opt joint) (i + unit_of mark) k → Row k ds
  next_row {l = l} {ds = ds} v s r j =
      let o = one_at_least mark in
      let q : Digits piece (suc o.0) (digits_of mark) l (length piece) ds = subst (λ (x : ℕ). Digits piece x (digits_of mark) l (length piece) ds) o.1 r in
      let e = joint_end (digits_of mark) (clear_of mark) (starting (unit_end (unit_of mark) (digits_of mark) v) s) (digits_at piece o.0 (digits_of mark) (clear_of mark) q) j in
      subst (λ (x : ℕ). Row x ds) e r

  -- ---- the walk

  module _ (at : ℕ) (u : Writer) where
    pub record Walk (i : ℕ) (v : Writer) : Type 0 where
      pub whole : List ℕ
      pub whole_are : Row at whole
      pub rest : List ℕ
      pub rest_are : Row i rest
      pub bytes : List ℕ
      pub small : Every (λ b. b < 2 ^ size_of (kind_of mark)) bytes
      pub so_far : expand (size_of (kind_of mark)) bytes ++ expand (width_of mark) (map (value_of (2 ^ width_of mark)) rest) ≡
          expand (width_of mark) (map (value_of (2 ^ width_of mark)) whole)
      pub appends : Appends u bytes v

    pub walk_begins : Has (Units piece mark at) → Walk at u
    walk_begins h =
        record {
          whole = h.digits;
          whole_are = h.are;
          rest = h.digits;
          rest_are = h.are;
          bytes = [];
          small = none;
          so_far = refl;
          appends = appends_none u;
        }

    module _ {i : ℕ} {v : Writer} (w : Walk i v) where
      pub walk_within : i + unit_of mark ≤ length piece
      walk_within = digits_forward w.rest_are

      pub walk_small : {count radix : ℕ} → count ≡ unit_of mark → radix ≡ 2 ^ width_of mark → Small piece i count radix
      walk_small {count} {radix} e f =
          let first = first_unit w.rest_are in
          let o = one_at_least mark in
          record {
            within = omega (arith, e, walk_within);
            few = omega (arith, e, o.1, o.2);
            radix_small = omega (arith, f, radix_most mark);
            digits_small =
                λ k h.
                subst (λ (r : ℕ). value_of r (get_or piece (i + k) 0) < r) (sym f)
                (value_small mark (get_or piece (i + k) 0) (unit_byte (unit_of mark) (digits_of mark) i first.1 k (omega (arith, h, e))).1);
          }

      -- the unit at i written too
      more_appends : {sum count size : ℕ} {x : Writer} → sum ≡ foldl (with_digit (2 ^ width_of mark)) 0 (read piece i (unit_of mark)) → count ≡ bytes_of mark →
          size ≡ size_of (kind_of mark) → Appends v (parts size count sum) x → Appends u (w.bytes ++ bytes_at i) x
      more_appends {sum} {count} {size} e f g p =
          appends_then w.appends
          (appends_same
          (ap (λ (x : ℕ). parts size count x) e
          ∙ ap (λ (x : ℕ). parts size x (foldl (with_digit (2 ^ width_of mark)) 0 (read piece i (unit_of mark)))) f
          ∙ ap (λ (x : ℕ). parts x (bytes_of mark) (foldl (with_digit (2 ^ width_of mark)) 0 (read piece i (unit_of mark)))) g) p)

      more_small : Every (λ b. b < 2 ^ size_of (kind_of mark)) (w.bytes ++ bytes_at i)
      more_small = every_append w.small (parts_small (size_of (kind_of mark)) (bytes_of mark) _)

      -- the bits of the digits from i on
      abbrev Bits : List ℕ → List ℕ
      Bits ds = expand (width_of mark) (map (value_of (2 ^ width_of mark)) ds)

      more_bits : {j : ℕ} → Unit i j → (rest : List ℕ) → w.rest ≡ read piece i (unit_of mark) ++ rest →
          expand (size_of (kind_of mark)) (w.bytes ++ bytes_at i) ++ Bits rest ≡ Bits w.whole
      more_bits u rest e =
          let vs = map (value_of (2 ^ width_of mark)) (read piece i (unit_of mark)) in
          ap (λ (l : List ℕ). l ++ Bits rest)
          (expand_append (size_of (kind_of mark)) w.bytes (bytes_at i) ∙ ap (λ (l : List ℕ). expand (size_of (kind_of mark)) w.bytes ++ l) (bytes_at_lem u))
          ∙ append_assoc (expand (size_of (kind_of mark)) w.bytes) (expand (width_of mark) vs) (Bits rest)
          ∙ ap (λ (l : List ℕ). expand (size_of (kind_of mark)) w.bytes ++ l)
          (sym (ap (expand (width_of mark)) (ap (map (value_of (2 ^ width_of mark))) e ∙ map-append (value_of (2 ^ width_of mark)) (read piece i (unit_of mark)) rest)
          ∙ expand_append (width_of mark) vs (map (value_of (2 ^ width_of mark)) rest)))
          ∙ w.so_far

      -- what the functions of the mark and of the digits answered at i
      module _ {sum width radix count : ℕ} {kind : Kind} {x : Writer} (e : sum ≡ foldl (with_digit radix) 0 (read piece i width)) (wide : width ≡ unit_of mark)
          (r : radix ≡ 2 ^ width_of mark) (f : count ≡ bytes_of mark) (g : kind ≡ kind_of mark) (p : Appends v (parts (size_of kind) count sum) x) where
        behind_unit : i + width ≡ i + unit_of mark
        behind_unit = omega (arith, wide)

        put : Appends u (w.bytes ++ bytes_at i) x
        put = more_appends (sum_known i e wide r) f (ap (λ (k : Kind). size_of k) g) p

        -- the last unit
        pub walk_ends : i + width ≡ length piece → Spreads mark (Units piece mark at) u x
        walk_ends h = go w.rest_are refl
          where
            go : {ds : List ℕ} → Row i ds → w.rest ≡ ds → Spreads mark (Units piece mark at) u x
            go (last_unit y) d =
                record {
                  digits = w.whole;
                  are = w.whole_are;
                  bytes = w.bytes ++ bytes_at i;
                  fills =
                      record {
                        small = more_small;
                        bits_are = sym (append-nil (expand (size_of (kind_of mark)) (w.bytes ++ bytes_at i))) ∙ more_bits y [] (d ∙ sym (append-nil (read piece i (unit_of mark))));
                      };
                  appends = put;
                }
            go (next_unit y s t) d =
                let o = one_at_least mark in
                absurd (omega (arith, h, wide, unit_end (unit_of mark) (digits_of mark) y, forward s, digits_forward t, o.1))

        -- one before it
        pub walk_next : {k : ℕ} → (i + width ≡ length piece → ⊥) → Longest piece (opt joint) (i + width) k → Walk k x
        walk_next {k} h j = go w.rest_are refl
          where
            go : {ds : List ℕ} → Row i ds → w.rest ≡ ds → Walk k x
            go (last_unit y) d = absurd (h (behind_unit ∙ sym (unit_end (unit_of mark) (digits_of mark) y)))
            go (next_unit {ds = ds} y s t) d =
                record {
                  whole = w.whole;
                  whole_are = w.whole_are;
                  rest = ds;
                  rest_are = next_row y s t (subst (λ (n : ℕ). Longest piece (opt joint) n k) behind_unit j);
                  bytes = w.bytes ++ bytes_at i;
                  small = more_small;
                  so_far = more_bits y ds d;
                  appends = put;
                }

-- ---- how many units there are

module _ (piece : List ℕ) (n at : ℕ) where
  -- at i, with k units before
  pub record Counting (i k : ℕ) : Type 0 where
    pub behind : k ≤ i
    pub has : HasUnits piece n i
    pub of : (mark : Mark) → n ≡ unit_of mark → (ds : List ℕ) → Units piece mark at ds →
        (rest : List ℕ) × Units piece mark i rest × (length ds ≡ k * unit_of mark + length rest)

  module _ {i k : ℕ} (w : Counting i k) where
    pub count_within : i + n ≤ length piece
    count_within = omega (arith, w.has.unit_is, digits_forward w.has.has.are)

    pub count_some : 1 ≤ n
    count_some = let o = one_at_least w.has.mark in omega (arith, w.has.unit_is, o.1)

    one_more_lem : (m : Mark) (l r : ℕ) → l ≡ k * unit_of m + (unit_of m + r) → l ≡ (k + 1) * unit_of m + r
    one_more_lem m l r e = let a : (k + 1) * unit_of m ≡ k * unit_of m + unit_of m = omega arith in omega (arith, e, a)

    pub count_ends : i + n ≡ length piece → Counts piece n at (k + 1)
    count_ends h = record { of = ends }
      where
        last : (mark : Mark) → n ≡ unit_of mark → {ds : List ℕ} → Units piece mark i ds → length ds ≡ unit_of mark
        last mark e (last_unit v) = read_length piece i (unit_of mark)
        last mark e (next_unit v s r) =
            let o = one_at_least mark in absurd (omega (arith, h, e, unit_end (unit_of mark) (digits_of mark) v, forward s, digits_forward r, o.1))

        ends : (mark : Mark) → n ≡ unit_of mark → (ds : List ℕ) → Units piece mark at ds → length ds ≡ (k + 1) * unit_of mark
        ends mark e ds d =
            let x = w.of mark e ds d in
            let z = one_more_lem mark (length ds) 0 (omega (arith, x.2, last mark e x.1)) in
            omega (arith, z)

    -- behind the joint
    module _ {l : ℕ} (h : i + n ≡ length piece → ⊥) (j : Longest piece (opt joint) (i + n) l) where
      behind_one : (mark : Mark) → n ≡ unit_of mark → {ds : List ℕ} → Units piece mark i ds →
          (rest : List ℕ) × Units piece mark l rest × (length ds ≡ unit_of mark + length rest)
      behind_one mark e (last_unit v) = absurd (h (ap (λ (m : ℕ). i + m) e ∙ sym (unit_end (unit_of mark) (digits_of mark) v)))
      behind_one mark e (next_unit {ds = ds} v s r) = (
        ds,
        next_row piece mark v s r (subst (λ (m : ℕ). Longest piece (opt joint) (i + m) l) e j),
        omega (arith, length-append (read piece i (unit_of mark)) ds, read_length piece i (unit_of mark)),
      )

      pub count_next : Counting l (k + 1)
      count_next =
          let b = behind_one w.has.mark w.has.unit_is w.has.has.are in
          record {
            behind = omega (arith, w.behind, forward j.takes, count_some);
            has = record { mark = w.has.mark; unit_is = w.has.unit_is; has = record { digits = b.0; are = b.1 } };
            of =
                λ mark e ds d.
                let x = w.of mark e ds d in
                let y = behind_one mark e x.1 in
                (y.0, y.1, one_more_lem mark (length ds) (length y.0) (omega (arith, x.2, y.2)));
          }
