-- A quoted Text without the space between its segments has the same escapes. Assumes nothing.
use mathlib.Core.Path.{◌≡◌, refl, sym, subst, ap, ◌∙◌}
use mathlib.Core.List.{List, [], ◌++◌, append_assoc, append-nil}
use Prim.Native.Nat.{ℕ, ◌+◌}
use native.Mathlib.Omega.{arith}
use lib.ListN.{length, drop, length-append, length-drop}
use Rattle.rules.specs.Rule.{many, opt, Takes, nothing, both, right, stop, more, Among}
use Rattle.rules.specs.Plain.{Matches, joined, no_more, one_more}
use Rattle.rules.proofs.Matches.{forward, ending}
use Rattle.rules.proofs.Windows.{Moves, among_moved}
use Rattle.rules.proofs.Plain.{placed}
use Rattle.rules.proofs.Ways.{end_takes}
use Rattle.lexicon.specs.declared.Kind.TheVariants.{Text}
use Rattle.lexicon.specs.declared.Form.TheVariants.{Quoted}
use Rattle.lexicon.specs.Space.{sp}
use Rattle.lexicon.specs.Literals.{segment}
use Rattle.lexicon.specs.Literals.{quoted as quoted-rule}
use Rattle.lexicon.specs.Bad.{BadSegment, BadFurther, BadQuoted, in_first, in_further}
use Rattle.lexicon.specs.Token.{Bad}
use Rattle.lexicon.proofs.Moved.{bad_segment_lem, bad_further_lem}
use Rattle.lexicon.proofs.Segments.{quote, further, quote_blank, segment_begins, segment_single, space_ends, further_single, bad_takes}
use Rattle.lexicon.proofs.Spaces.{landed}
use Rattle.form.specs.Bare.{bare}
use Rattle.form.proofs.Strip.{segment_same, bare_nil}
use Rattle.form.proofs.Amid.{behind, moves_alone, moves_there}
use Rattle.form.proofs.Digit.{opt_space_gone}

-- a row of further segments, one of them bad
abbrev Further : List ℕ → ℕ → ℕ → Type 0
Further text i j = Among text further (BadFurther text) i j

segment_moving : Moves (λ (text : List ℕ). BadSegment text)
segment_moving a b p q n w i j x h k = bad_segment_lem a b p q n w x h k

further_moving : Moves Further
further_moving a b p q n w i j x h k =
    among_moved a b p q n w further (BadFurther a) (BadFurther b) (λ i j y u v. bad_further_lem a b p q n w y u v) x h k

module _ (T : List ℕ) where
  -- a segment's bytes at a place
  module _ (g y : List ℕ) (q : ℕ) (stands : drop q T ≡ g ++ y) (mg : Matches segment g) where
    here : Takes T segment q (q + length g)
    here = placed T mg q y stands

    bad_here : {j : ℕ} → BadSegment T q j → BadSegment g 0 (length g)
    bad_here {j} b =
        let e = (segment_single T).same (bad_takes T b) here in
        moves_alone T g y q stands (λ (t : List ℕ). BadSegment t) segment_moving (omega (arith, (segment_begins T here).0)) (subst (λ (x : ℕ). BadSegment T q x) e b)

    bad_next : {j : ℕ} → BadFurther T q j → BadSegment g 0 (length g)
    bad_next {j} b =
        let e = space_ends T b.before (bad_takes T b.bad) (landed quote quote_blank (right (nothing refl)) (segment_begins T here)) in
        bad_here (subst (λ (x : ℕ). BadSegment T x j) e b.bad)

    more_end : {j : ℕ} → Takes T further q j → j ≡ q + length g
    more_end t = (further_single T).same t (both (right (nothing refl)) here)

-- ---- a row of further segments

-- it begins with a bad one, or one stands later
now_bad : (z g r : List ℕ) → Matches (opt sp) z → Matches segment g → Matches (many further) r → BadSegment g 0 (length g) →
    Among ((z ++ g) ++ r) further (BadFurther ((z ++ g) ++ r)) 0 (length ((z ++ g) ++ r))
now_bad z g r mz mg mr b =
    let T = (z ++ g) ++ r in
    let e0 = append_assoc z g r in
    let e1 = behind T z (g ++ r) 0 e0 in
    let e2 = behind T g r (0 + length z) e1 in
    let tz = placed T mz 0 (g ++ r) e0 in
    let tg = placed T mg (0 + length z) r e1 in
    let long : 0 + length z + length g + length r ≡ length ((z ++ g) ++ r) = omega (arith, length-append (z ++ g) r, length-append z g) in
    let f = moves_there T g r (0 + length z) e1 (λ (t : List ℕ). BadSegment t) segment_moving (omega (arith, long)) b in
    record {
      from = 0;
      upto = 0 + length z + length g;
      before = stop refl;
      match = both tz tg;
      holds = record { start = 0 + length z; before = tz; bad = f };
      behind = ending long (placed T mr (0 + length z + length g) [] (e2 ∙ sym (append-nil r)));
    }

later_bad : (x r : List ℕ) → Matches further x → Among r further (BadFurther r) 0 (length r) →
    Among (x ++ r) further (BadFurther (x ++ r)) 0 (length (x ++ r))
later_bad x r mx a =
    let T = x ++ r in
    let e1 = behind T x r 0 refl in
    let long : 0 + length x + length r ≡ length (x ++ r) = omega (arith, length-append x r) in
    let f = moves_there T r [] (0 + length x) (e1 ∙ sym (append-nil r)) Further further_moving (omega (arith, long)) a in
    let t = placed T mx 0 r refl in
    record { from = f.from; upto = f.upto; before = more t f.before; match = f.match; holds = f.holds; behind = ending long f.behind }

row_bad : (T : List ℕ) {r : List ℕ} → Matches (many further) r → (q : ℕ) → drop q T ≡ bare r → Among T further (BadFurther T) q (length T) →
    Among r further (BadFurther r) 0 (length r)
row_bad T no_more q e a =
    let h = forward a.before in
    absurd (end_takes T further refl (omega (arith, h, length-drop q T, ap length (e ∙ bare_nil))) a.match)
row_bad T (one_more {b = r} (joined {a = z} {b = g} mz mg) n) q e a = go a.before a.match a.holds a.behind (λ p s x. row_bad T n p s x)
  where
    stands : drop q T ≡ g ++ bare r
    stands = e ∙ ap bare (append_assoc z g r) ∙ opt_space_gone (g ++ r) mz ∙ segment_same r mg

    go : {f u : ℕ} → Takes T (many further) q f → Takes T further f u → BadFurther T f u → Takes T (many further) u (length T) →
        ((p : ℕ) → drop p T ≡ bare r → Among T further (BadFurther T) p (length T) → Among r further (BadFurther r) 0 (length r)) →
        Among ((z ++ g) ++ r) further (BadFurther ((z ++ g) ++ r)) 0 (length ((z ++ g) ++ r))
    go {f} {u} (stop i) m b c h = now_bad z g r mz mg n (bad_next T g (bare r) q stands mg (subst (λ (x : ℕ). BadFurther T x u) (sym i) b))
    go (more {m = k} t v) m b c h =
        let i = more_end T g (bare r) q stands mg t in
        later_bad (z ++ g) r (joined mz mg)
        (h k (ap (λ (x : ℕ). drop x T) i ∙ behind T g (bare r) q stands) (record { from = _; upto = _; before = v; match = m; holds = b; behind = c }))

-- ---- the Text

texts_kept : (s r : List ℕ) → Matches segment s → Matches (many further) r → BadQuoted (s ++ bare r) 0 (length (s ++ bare r)) →
    BadQuoted (s ++ r) 0 (length (s ++ r))
texts_kept s r ms mr (in_first b t) =
    let c = bad_here (s ++ bare r) s (bare r) 0 refl ms b in
    let e1 = behind (s ++ r) s r 0 refl in
    let long : 0 + length s + length r ≡ length (s ++ r) = omega (arith, length-append s r) in
    in_first (moves_there (s ++ r) s r 0 refl (λ (t : List ℕ). BadSegment t) segment_moving (omega arith) c)
    (ending long (placed (s ++ r) mr (0 + length s) [] (e1 ∙ sym (append-nil r))))
texts_kept s r ms mr (in_further {m = m} t a) =
    let T = s ++ bare r in
    let i = (segment_single T).same t (here T s (bare r) 0 refl ms) in
    let c = row_bad T mr m (ap (λ (x : ℕ). drop x T) i ∙ behind T s (bare r) 0 refl) a in
    let e1 = behind (s ++ r) s r 0 refl in
    let long : 0 + length s + length r ≡ length (s ++ r) = omega (arith, length-append s r) in
    let f = moves_there (s ++ r) r [] (0 + length s) (e1 ∙ sym (append-nil r)) Further further_moving (omega (arith, long)) c in
    in_further (placed (s ++ r) ms 0 r refl) (subst (λ (x : ℕ). Among (s ++ r) further (BadFurther (s ++ r)) (0 + length s) x) long f)

pub texts : (a : List ℕ) → Matches quoted-rule a → (Bad a (Text Quoted) 0 (length a) → ⊥) → Bad (bare a) (Text Quoted) 0 (length (bare a)) → ⊥
texts _ (joined {a = s} {b = r} ms mr) n b = n (texts_kept s r ms mr (subst (λ (l : List ℕ). BadQuoted l 0 (length l)) (segment_same r ms) b))
