-- Whether a text is another one laid out anew, computed piece by piece. Assumes nothing.
use mathlib.Core.Path.{◌≡◌, refl, sym, ap, subst, ◌∙◌}
use mathlib.Core.Logic.{◌⊎◌, inl, inr}
use mathlib.Core.Bool.{Bool, true, false, ◌&&◌, ◌||◌, false≢true}
use mathlib.Core.List.{List, [], ◌∷◌, ◌++◌}
use Prim.Native.Nat.{ℕ, zero, suc, ◌≤◌, ◌<◌}
use native.Mathlib.Nat.{sub-zero}
use native.Mathlib.Omega.{arith}
use lib.Dec.{ltb, eqb}
use lib.ListN.{length, take, drop, length-drop, take-append-drop}
use lib.Seq.{take-append_seam, drop-append_seam}
use Rattle.rules.specs.Class.{In, has}
use Rattle.rules.specs.Rule.{Rule, opt, Takes, nothing, left, right, Longest, Fails}
use Rattle.rules.specs.Plain.{Matches, between}
use Rattle.rules.specs.Test.{Says}
use Rattle.rules.proofs.Tests.{says_no}
use Rattle.rules.proofs.Matches.{longest_same}
use Rattle.rules.proofs.Plain.{plain, takes_whole}
use Rattle.rules.proofs.Ways.{nullable, grows}
use Rattle.lexicon.specs.Space.{blank, sp}
use Rattle.lexicon.proofs.Spaces.{skips, skips_fails}
use Rattle.lexicon.proofs.Determined.{one_front}
use Rattle.decisions.proofs.Tests.{by, and, either, below, equal, same_as, same_as_lem}
use Rattle.decisions.proofs.Ends.{furthest, furthest_longest}
use Rattle.decisions.proofs.Front.{front_of, front_is}
use Rattle.layout.specs.Relaid.{quotes, ordinary, Alike, ends, same_byte, same_quotes, stretch, Relaid}
use Rattle.layout.proofs.Cut.{other_way, first_takes, quotes_single, fails_rest, sp_many, fails_behind, none_first}
use Rattle.layout.proofs.Back.{no_blank}

-- ---- the first piece of a text

-- where a match of the rule at the front of a text ends; 0 where there is none
abbrev end_of : Rule → List ℕ → ℕ
end_of r s = furthest s (opt r) 0

end_is : (r : Rule) (s : List ℕ) → Longest s (opt r) 0 (end_of r s)
end_is r s = furthest_longest s (opt r) 0 (right (nothing refl))

first_matches : (r : Rule) (s : List ℕ) → 0 < end_of r s → Matches r (take (end_of r s) s)
unfolding between
first_matches r s h = go (end_is r s).takes h
  where
    go : {e : ℕ} → Takes s (opt r) 0 e → 0 < e → Matches r (take e s)
    go {e} (left t) h = subst (λ (n : ℕ). Matches r (take n s)) (sub-zero e) (plain s t)
    go (right (nothing e)) h = absurd (omega (arith, e, h))

-- a piece has a byte at least
some : (r : Rule) → nullable r ≡ false → {a : List ℕ} → Matches r a → 0 < length a
some r e {a} m = grows r e ((takes_whole r a).1 m)

-- no more of it begins behind all dividing space
space_full : (s : List ℕ) → Fails (drop (end_of sp s) s) blank 0
space_full s = fails_rest s (end_of sp s) (skips_fails (end_is sp s))

space_ends : {a : List ℕ} (s : List ℕ) → Matches sp a → Fails s blank 0 → end_of sp (a ++ s) ≡ length a
space_ends {a} s m f = longest_same (end_is sp (a ++ s)) (skips (sp_many (first_takes m s)) (fails_behind a s f))

quotes_end : {q : List ℕ} (s : List ℕ) → Matches quotes q → end_of quotes (q ++ s) ≡ length q
quotes_end {q} s m = longest_same (end_is quotes (q ++ s)) (record { takes = left (first_takes m s); most = λ t. go t })
  where
    go : {k : ℕ} → Takes (q ++ s) (opt quotes) 0 k → k ≤ length q
    go (left t) = omega (arith, (quotes_single (q ++ s)).same t (first_takes m s))
    go (right (nothing e)) = omega (arith, e)

-- ---- how two texts go on: by nothing, a byte, quotes or a stretch, and then alike

abbrev OnByte : List ℕ → List ℕ → Type 0
OnByte [] t = ⊥
OnByte (b ∷ s) [] = ⊥
OnByte (b ∷ s) (c ∷ t) = (In ordinary b × (b ≡ c)) × Alike s t

abbrev OnQuotes : ℕ → List ℕ → List ℕ → Type 0
OnQuotes q s t = ((0 < q) × (take q t ≡ take q s)) × Alike (drop q s) (drop q t)

abbrev OnSpace : ℕ → ℕ → List ℕ → List ℕ → Type 0
OnSpace a c s t = ((0 < a) × (0 < c)) × Alike (drop a s) (drop c t)

abbrev Goes : List ℕ → List ℕ → Type 0
Goes s t = (([] ≡ s) × ([] ≡ t)) ⊎ (OnByte s t ⊎ (OnQuotes (end_of quotes s) s t ⊎ OnSpace (end_of sp s) (end_of sp t) s t))

byte_alike : (s t : List ℕ) → OnByte s t → Alike s t
byte_alike [] t x = absurd x
byte_alike (b ∷ s) [] x = absurd x
byte_alike (b ∷ s) (c ∷ t) x = subst (λ (d : ℕ). Alike (b ∷ s) (d ∷ t)) x.0.1 (same_byte x.0.0 x.1)

goes_alike : (s t : List ℕ) → Goes s t → Alike s t
goes_alike s t (inl e) = other_way e.0 e.1 ends
goes_alike s t (inr (inl x)) = byte_alike s t x
goes_alike s t (inr (inr (inl x))) =
    let q = end_of quotes s in
    other_way (take-append-drop q s) (ap (λ (l : List ℕ). l ++ drop q t) (sym x.0.1) ∙ take-append-drop q t) (same_quotes (first_matches quotes s x.0.0) x.1)
goes_alike s t (inr (inr (inr x))) =
    other_way (take-append-drop (end_of sp s) s) (take-append-drop (end_of sp t) t)
    (stretch (first_matches sp s x.0.0) (space_full s) (first_matches sp t x.0.1) x.1)

-- what stands behind the first of two
behind : (a b s t : List ℕ) → Alike s t → Alike (drop (length a) (a ++ s)) (drop (length b) (b ++ t))
behind a b s t x = other_way (sym (drop-append_seam a s)) (sym (drop-append_seam b t)) x

alike_goes : {s t : List ℕ} → Alike s t → Goes s t
alike_goes ends = inl (refl, refl)
alike_goes (same_byte i x) = inr (inl ((i, refl), x))
alike_goes (same_quotes {q = q} {s = s} {t = t} m x) =
    inr (inr (inl (subst (λ (n : ℕ). OnQuotes n (q ++ s) (q ++ t)) (sym (quotes_end s m))
    ((some quotes refl m, take-append_seam q t ∙ sym (take-append_seam q s)), behind q q s t x))))
alike_goes (stretch {a = a} {b = b} {s = s} {t = t} m f n x) =
    inr (inr (inr (subst (λ (k : ℕ). OnSpace k (end_of sp (b ++ t)) (a ++ s) (b ++ t)) (sym (space_ends s m f))
    (subst (λ (k : ℕ). OnSpace (length a) k (a ++ s) (b ++ t)) (sym (space_ends t n (no_blank x f))) ((some sp refl m, some sp refl n), behind a b s t x)))))

-- ---- the test

-- the second is asked only where the first holds, and then knows it
guarded : (b : Bool) {c : Bool} {P Q : Type 0} → Says b P → (P → Says c Q) → Says (elim b [ true ↦ c | false ↦ false ]) (P × Q)
guarded true s f = let p = s.true_holds refl in record { true_holds = λ e. (p, (f p).true_holds e); holds_true = λ x. (f p).holds_true x.1 }
guarded false s f = says_no (λ x. false≢true (s.holds_true x.0))

-- by the first piece of each, with a test of what stands behind
module _ (f : List ℕ → List ℕ → Bool) where
  abbrev on_byte : List ℕ → List ℕ → Bool
  on_byte [] t = false
  on_byte (b ∷ s) [] = false
  on_byte (b ∷ s) (c ∷ t) = elim (has ordinary b && eqb b c) [ true ↦ f s t | false ↦ false ]

  abbrev on_quotes : ℕ → List ℕ → List ℕ → Bool
  on_quotes q s t = elim (ltb 0 q && same_as (take q s) (take q t)) [ true ↦ f (drop q s) (drop q t) | false ↦ false ]

  abbrev on_space : ℕ → ℕ → List ℕ → List ℕ → Bool
  on_space a c s t = elim (ltb 0 a && ltb 0 c) [ true ↦ f (drop a s) (drop c t) | false ↦ false ]

-- no piece is left
abbrev none : List ℕ → List ℕ → Bool
none s t = same_as s [] && same_as t []

abbrev goes : (List ℕ → List ℕ → Bool) → List ℕ → List ℕ → Bool
goes f s t = none s t || (on_byte f s t || (on_quotes f (end_of quotes s) s t || on_space f (end_of sp s) (end_of sp t) s t))

none_is : (s t : List ℕ) → Says (none s t) (([] ≡ s) × ([] ≡ t))
none_is s t = and (same_as_lem s []) (same_as_lem t [])

-- each piece takes a byte at least of the text
module _ (f : List ℕ → List ℕ → Bool) (n : ℕ) (is : (s t : List ℕ) → length s ≤ n → Says (f s t) (Alike s t)) where
  byte_is : (s t : List ℕ) → length s ≤ suc n → Says (on_byte f s t) (OnByte s t)
  byte_is [] t h = says_no (λ x. x)
  byte_is (b ∷ s) [] h = says_no (λ x. x)
  byte_is (b ∷ s) (c ∷ t) h =
      guarded (has ordinary b && eqb b c) (and (record { true_holds = λ e. e; holds_true = λ e. e }) (equal b c)) (λ p. is s t (omega (arith, h)))

  quotes_is : (q : ℕ) (s t : List ℕ) → length s ≤ suc n → Says (on_quotes f q s t) (OnQuotes q s t)
  quotes_is q s t h =
      guarded (ltb 0 q && same_as (take q s) (take q t)) (and (below 0 q) (same_as_lem (take q s) (take q t)))
      (λ p. is (drop q s) (drop q t) (omega (arith, h, p.0, length-drop q s)))

  space_is : (a c : ℕ) (s t : List ℕ) → length s ≤ suc n → Says (on_space f a c s t) (OnSpace a c s t)
  space_is a c s t h =
      guarded (ltb 0 a && ltb 0 c) (and (below 0 a) (below 0 c)) (λ p. is (drop a s) (drop c t) (omega (arith, h, p.0, length-drop a s)))

  goes_is : (s t : List ℕ) → length s ≤ suc n → Says (goes f s t) (Alike s t)
  goes_is s t h =
      by (goes_alike s t) alike_goes
      (either (none_is s t) (either (byte_is s t h) (either (quotes_is (end_of quotes s) s t h) (space_is (end_of sp s) (end_of sp t) s t h))))

-- a text of n bytes has no more pieces
abbrev alike : ℕ → List ℕ → List ℕ → Bool
alike zero s t = none s t
alike (suc n) s t = goes (alike n) s t

alike_is : (n : ℕ) (s t : List ℕ) → length s ≤ n → Says (alike n s t) (Alike s t)
alike_is zero [] t h = by (λ e. goes_alike [] t (inl e)) (λ x. (refl, sym (none_first x refl))) (none_is [] t)
alike_is zero (b ∷ s) t h = absurd (omega (arith, h))
alike_is (suc n) s t h = goes_is (alike n) n (λ s t h. alike_is n s t h) s t h

-- ---- the whole text

abbrev pub relaid : List ℕ → List ℕ → Bool
relaid text other =
    let start = front_of text in
    same_as (take start text) (take start other) && alike (length text) (drop start text) (drop start other)

pub relaid_is : (text other : List ℕ) → Says (relaid text other) (Relaid text other)
relaid_is text other =
    let start = front_of text in
    by (λ x. record { start = start; front = front_is text; same_front = x.0; behind = x.1 })
    (λ r. let e = one_front text r.front (front_is text) in
    (subst (λ (n : ℕ). take n other ≡ take n text) e r.same_front, subst (λ (n : ℕ). Alike (drop n text) (drop n other)) e r.behind))
    (and (same_as_lem (take start text) (take start other)) (alike_is (length text) (drop start text) (drop start other) (omega (arith, length-drop start text))))
