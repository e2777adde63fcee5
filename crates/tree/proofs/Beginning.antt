-- How a value begins, by its first token: what the begun value is to the machine, one law for each way. Assumes nothing.
use mathlib.Core.Path.{◌≡◌, refl, sym, ap, subst, ◌∙◌}
use mathlib.Core.Logic.{⊎_elim}
use mathlib.Core.Bool.{Bool, true, false}
use mathlib.Core.List.{List, [], ◌∷◌}
use mathlib.Core.Option.{some}
use Prim.Native.Nat.{ℕ, suc, ◌≤◌, ◌<◌}
use native.Mathlib.Omega.{arith}
use lib.ListN.{length}
use Rattle.lexicon.specs.declared.Head.{Head}
use Rattle.lexicon.specs.declared.Form.TheVariants as Form
use Rattle.lexicon.specs.declared.Sign.TheVariants as Sign
use Rattle.lexicon.specs.declared.Kind.{Kind}
use Rattle.lexicon.specs.declared.Token as Token
use Rattle.lexicon.proofs.Pieces.{token_bounds}
use Rattle.grammar.specs.Tokens
use Rattle.grammar.specs.Tokens.{Span, Mark, Class, class_kind}
use Rattle.grammar.specs.Tree as Tree
use Rattle.grammar.specs.Yield.{collection_head}
use Rattle.grammar.specs.Level.{Level, has_head, has_collection}
use Rattle.grammar.proofs.Frames as Frames
use Rattle.grammar.proofs.Frames.{Config, Stack, want, have, want_curly}
use Rattle.grammar.proofs.Machine.{when, want_class, have_class, head_colon, step}
use Rattle.reading.specs.declared.Limits.{Limits}
use Rattle.reading.specs.Tokens.{seen}
use Rattle.reading.specs.Faults.{NewerAt}
use Rattle.reading.proofs.Rows.{pick}
use Rattle.reading.proofs.Decide.{is_arrow, not_arrow}
use Rattle.reading.proofs.At as Place
use Rattle.moves.specs.declared.Forms.{Forms}
use Rattle.moves.specs.declared.Style.{Style}
use Rattle.moves.specs.declared.Front.TheVariants as Front
use Rattle.moves.specs.declared.CurlyFrame.TheVariants as Curly
use Rattle.moves.specs.declared.SquareFrame.TheVariants as Square
use Rattle.moves.specs.declared.Frame.TheVariants as Frame
use Rattle.moves.specs.declared.Mode.{Mode}
use Rattle.moves.specs.Means.{level_of, mode_of, inside, open_of, below, children, collection_style}
use Rattle.moves.specs.Effects.{held, opening}
use Rattle.std.specs.Prelude.{Some, Result, Ok, Err}
use Rattle.reading.specs.declared.Refusal.{Refusal}
use Rattle.reading.specs.declared.Refused.{Refused}
use Rattle.reading.specs.Refusals.{number_of}
use Rattle.begin.specs.declared.Begin.{Begin}
use Rattle.look.specs.Looks.{Gets, HeadHere, NoHead}
use Rattle.level.specs.Levels.{Collects}
use Rattle.begin.specs.Signs.{literal}
use Rattle.begin.specs.Begins.{refused_at, Deeper, Begins, a_literal, a_name, a_mark, a_later, curly, square, square_newer, headed, head_newer, round}
use Rattle.tree.specs.Readers.{span_of, opened, Stands, Faulty, Asks}

module _ (text : List ℕ) where
  -- what comes behind `(`; from where another bracket is read on
  abbrev pub From : Token.Token → Result Begin Refused → Type 0
  From t (Ok Begin.Literal) = Unit {0}
  From t (Ok Begin.Names) = Unit {0}
  From t (Ok (Begin.Round g)) = Gets text t.end g
  From t (Ok (Begin.Bracket mode at)) = (t.end ≤ at) × (at ≤ length text)
  From t (Err e) = Unit {0}

  module _ (limits : Limits) (forms : Forms) where
    -- where another bracket, or a head, is entered
    pub record Entered (K : Stack) (d : ℕ) (t : Token.Token) (mode : Mode) (at : ℕ) : Type 0 where
      pub config : Config
      pub stands : Stands text limits forms (suc d) at config
      pub within : inside config ≡ true
      pub mode_is : mode_of config ≡ mode
      pub stack_is : below config ≡ K
      pub open_is : open_of config ≡ span_of t
      pub no_member : (i : ℕ) → children config i ≡ []
      pub no_value : held config ≡ false
      pub no_first : opening config ≡ false

    abbrev pub Begun : Stack → ℕ → Token.Token → Result Begin Refused → Type 0
    Begun K d t (Ok Begin.Literal) = literal (class_kind t.kind) ≡ true
    Begun K d t (Ok Begin.Names) = t.kind ≡ Kind.TwoColons
    Begun K d t (Ok (Begin.Round g)) = Stands text limits forms (suc d) t.end (want (opened t K)) × NoHead text t.end
    Begun K d t (Ok (Begin.Bracket mode at)) = Entered K d t mode at
    Begun K d t (Err e) = Faulty text limits forms (number_of e.refusal) e.place

    pub record BeginsSo (d : ℕ) (t : Token.Token) (r : Result Begin Refused) : Type 0 where
      pub from : t.end ≤ length text → From t r
      pub begun : (K : Stack) (at : ℕ) → Asks text limits forms K d at t → Begun K d t r

-- a collection's head is of the level
has_head_lem : (l : Level) (k : Tree.Collection) → has_collection l k ≡ true → has_head l (collection_head k) ≡ true
has_head_lem l Tree.array e = e
has_head_lem l Tree.set e = e
has_head_lem l Tree.bag e = e

-- and its colon leads on
head_steps : (l : Level) (k : Tree.Collection) (o s c : Span) (K : Stack) → has_collection l k ≡ true →
    head_colon l (collection_head k) o s c K ≡ some (want_curly o k s c K)
head_steps l Tree.array o s c K e = ap (λ (b : Bool). when b (want_curly o Tree.array s c K)) e
head_steps l Tree.set o s c K e = ap (λ (b : Bool). when b (want_curly o Tree.set s c K)) e
head_steps l Tree.bag o s c K e = ap (λ (b : Bool). when b (want_curly o Tree.bag s c K)) e

module _ (text : List ℕ) (limits : Limits) (forms : Forms) (d : ℕ) (t : Token.Token) where
  abbrev l : Level
  l = level_of forms

  abbrev So : Result Begin Refused → Type 0
  So r = BeginsSo text limits forms d t r

  begins_as : {r : Result Begin Refused} (s : Result Begin Refused) → r ≡ s → So s → So r
  begins_as s e x = subst (λ (y : Result Begin Refused). So y) (sym e) x

  -- ---- no bracket

  literal_begins : literal (class_kind t.kind) ≡ true → So (Ok Begin.Literal)
  literal_begins h = record { from = λ x. tt; begun = λ K at a. h }

  names_begin : t.kind ≡ Kind.TwoColons → So (Ok Begin.Names)
  names_begin e = record { from = λ x. tt; begun = λ K at a. e }

  later_begins : t.kind ≡ Kind.Later → So (Err (refused_at Refusal.NewerForm t))
  later_begins e = record { from = λ x. tt; begun = λ K at a. Place.later_here limits l text a.stands refl t a.comes e }

  -- a sign that begins no value
  mark_begins : (m : Mark) → class_kind t.kind ≡ Tokens.mark m → So (Err (refused_at Refusal.WrongPlace t))
  mark_begins m c =
      record {
        from = λ x. tt;
        begun = λ K at a. Place.sign_wrong limits l text a.stands t a.comes m c (ap (λ (y : Class). want_class l y (span_of t) K) c ∙ a.no_sign m c);
      }

  -- ---- brackets

  either : (b : Begin) {r : Result Begin Refused} → Deeper limits d t b r → (limits.depth ≤ d → So (Err (refused_at Refusal.TooDeep t))) → (d < limits.depth → So (Ok b)) → So r
  either b x f g = ⊎_elim (λ y. begins_as _ y.1 (f y.0)) (λ y. begins_as _ y.1 (g y.0)) x

  -- an opening bracket that begins no newer form, and where it leads
  record Opens (to : Stack → Config) : Type 0 where
    bracket : Place.opens (class_kind t.kind) ≡ true
    known : (K : Stack) (at : ℕ) (a : Asks text limits forms K d at t) → NewerAt l text a.stands.tokens t → ⊥
    steps : (K : Stack) → step l (want K) (seen t) ≡ some (to K)

  goes_in : {to : Stack → Config} → Opens to → d < limits.depth → (K : Stack) (at : ℕ) → Asks text limits forms K d at t → Stands text limits forms (suc d) t.end (to K)
  goes_in o h K at a = Place.open_on limits l text a.stands t a.comes o.bracket (o.known K at a) h (o.steps K)

  too_deep : {to : Stack → Config} → Opens to → limits.depth ≤ d → So (Err (refused_at Refusal.TooDeep t))
  too_deep o h =
      record {
        from = λ x. tt;
        begun = λ K at a. Place.deep_here limits l text a.stands t a.comes o.bracket (o.known K at a) h (o.steps K);
      }

  -- ---- `{`

  abbrev in_lot : Stack → Config
  in_lot K = want (Frames.Frame.in_curly (Frames.CurlyFrame.in_curly (Frames.lot_curly (span_of t)) Frames.start) ∷ K)

  opens_curly : t.kind ≡ Kind.Symbol Sign.CurlyOpen → Opens in_lot
  opens_curly e =
      record {
        bracket = ap (λ (y : Kind). Place.opens (class_kind y)) e;
        known = λ K at a n. Place.curly_known limits l text a.stands t (ap class_kind e) n;
        steps = λ K. ap (λ (y : Kind). want_class l (class_kind y) (span_of t) K) e;
      }

  curly_begins : {r : Result Begin Refused} → Deeper limits d t (Begin.Bracket (Mode.Want (Frame.Curly (Curly.Members Style.Lot Front.Start))) t.end) r →
      t.kind ≡ Kind.Symbol Sign.CurlyOpen → So r
  curly_begins x e =
      let o = opens_curly e in
      either _ x (λ h. too_deep o h)
      (λ h.
      record {
        from = λ y. (omega arith, y);
        begun = λ K at a.
            record {
              config = in_lot K;
              stands = goes_in o h K at a;
              within = refl;
              mode_is = refl;
              stack_is = refl;
              open_is = refl;
              no_member = λ i. refl;
              no_value = refl;
              no_first = refl;
            };
      })

  -- ---- `[`

  abbrev in_interval : Stack → Config
  in_interval K = want (Frames.in_square (Frames.square_opened (span_of t)) ∷ K)

  opens_square : t.kind ≡ Kind.Symbol Sign.SquareOpen → forms.intervals ≡ true → Opens in_interval
  opens_square e i =
      record {
        bracket = ap (λ (y : Kind). Place.opens (class_kind y)) e;
        known = λ K at a n. Place.square_known limits l text a.stands t (ap class_kind e) i n;
        steps = λ K. ap (λ (y : Kind). want_class l (class_kind y) (span_of t) K) e ∙ ap (λ (b : Bool). when b (in_interval K)) i;
      }

  square_begins : {r : Result Begin Refused} → Deeper limits d t (Begin.Bracket (Mode.Want (Frame.Square Square.Opened)) t.end) r →
      forms.intervals ≡ true → t.kind ≡ Kind.Symbol Sign.SquareOpen → So r
  square_begins x i e =
      let o = opens_square e i in
      either _ x (λ h. too_deep o h)
      (λ h.
      record {
        from = λ y. (omega arith, y);
        begun = λ K at a.
            record {
              config = in_interval K;
              stands = goes_in o h K at a;
              within = refl;
              mode_is = refl;
              stack_is = refl;
              open_is = refl;
              no_member = λ i. refl;
              no_value = refl;
              no_first = refl;
            };
      })

  square_newer_lem : forms.intervals ≡ false → t.kind ≡ Kind.Symbol Sign.SquareOpen → So (Err (refused_at Refusal.NewerForm t))
  square_newer_lem i e =
      record { from = λ y. tt; begun = λ K at a. Place.bracket_newer limits l text a.stands refl t a.comes (ap class_kind e) i }

  -- ---- `(`

  -- a head behind it, if any, is of the level
  opens_round : t.kind ≡ Kind.Symbol Sign.RoundOpen → ((h : Head) (end : ℕ) → HeadHere text t.end h end → has_head l h ≡ true) →
      Opens (λ K. want (opened t K))
  opens_round e f =
      record {
        bracket = ap (λ (y : Kind). Place.opens (class_kind y)) e;
        known = λ K at a n.
            Place.round_known limits l text a.stands t (ap class_kind e)
            (λ u w h k i m j. f h w.end (record { word = u; comes = k; word_is = i; sign = w; then = m; sign_is = j; end_is = refl })) n;
        steps = λ K. ap (λ (y : Kind). want_class l (class_kind y) (span_of t) K) e;
      }

  round_begins : {r : Result Begin Refused} (g : Result Token.Token Refused) → Deeper limits d t (Begin.Round g) r → Gets text t.end g → NoHead text t.end → t.kind ≡ Kind.Symbol Sign.RoundOpen → So r
  round_begins g x k n e =
      let o = opens_round e (λ h end w. absurd (n.none h end w)) in
      either _ x (λ h. too_deep o h) (λ h. record { from = λ y. k; begun = λ K at a. (goes_in o h K at a, n) })

  -- one place has one head
  head_same_lem : {h j : Head} {p q : ℕ} → HeadHere text t.end h p → HeadHere text t.end j q → h ≡ j
  head_same_lem {h} {j} x y =
      let e : Kind.Text (Form.HeadWord h) ≡ Kind.Text (Form.HeadWord j) =
      sym x.word_is ∙ ap (λ (u : Token.Token). u.kind) (pick text x.comes y.comes) ∙ y.word_is in
      cc

  head_refused : {h : Head} {end : ℕ} → HeadHere text t.end h end → has_head l h ≡ false → t.kind ≡ Kind.Symbol Sign.RoundOpen →
      So (Err (refused_at Refusal.NewerForm t))
  head_refused {h} w i e =
      record {
        from = λ y. tt;
        begun = λ K at a.
            Place.head_newer_lem limits l text a.stands refl t w.word w.sign h a.comes (ap class_kind e) w.comes w.word_is w.then w.sign_is i;
      }

  opens_head : {end : ℕ} (k : Tree.Collection) → HeadHere text t.end (collection_head k) end → has_collection l k ≡ true →
      t.kind ≡ Kind.Symbol Sign.RoundOpen → Opens (λ K. want (opened t K))
  opens_head k w i e = opens_round e (λ h p x. ap (has_head l) (head_same_lem x w) ∙ has_head_lem l k i)

  -- the head word and its colon are stepped over
  behind_head_lem : {end : ℕ} (k : Tree.Collection) (w : HeadHere text t.end (collection_head k) end) → has_collection l k ≡ true → {n : ℕ} {K : Stack} →
      Stands text limits forms n t.end (want (opened t K)) →
      Stands text limits forms n end (want_curly (span_of t) k (span_of w.word) (span_of w.sign) K)
  behind_head_lem {end} k w i {n} {K} a =
      let h = collection_head k in
      let u = w.word in
      let s = w.sign in
      let good = Place.never_bad limits l text u w.comes (ap Place.may_be_bad w.word_is) in
      let b : Stands text limits forms n u.end (have (Tree.bare h (span_of u)) (opened t K)) =
      Place.literal_on limits l text a u w.comes (ap (λ (y : Kind). Place.plain (class_kind y)) w.word_is) good
      (ap (λ (y : Kind). want_class l (class_kind y) (span_of u) (opened t K)) w.word_is) in
      let c : Stands text limits forms n s.end (want_curly (span_of t) k (span_of u) (span_of s) K) =
      Place.sign_on limits l text b s w.then Tokens.colon (ap class_kind w.sign_is) (λ y. not_arrow s (ap (λ (z : Kind). is_arrow (class_kind z)) w.sign_is) y)
      (ap (λ (y : Kind). have_class l (class_kind y) (Tree.bare h (span_of u)) (span_of s) (opened t K)) w.sign_is
      ∙ head_steps l k (span_of t) (span_of u) (span_of s) K i) in
      subst (λ (p : ℕ). Stands text limits forms n p (want_curly (span_of t) k (span_of u) (span_of s) K)) (sym w.end_is) c

  head_place : {h : Head} {end : ℕ} → HeadHere text t.end h end → (t.end ≤ end) × (end ≤ length text)
  head_place w =
      let x = token_bounds text w.comes in
      let y = token_bounds text w.then in
      (omega (arith, w.end_is, x.0, x.1, y.0, y.1), omega (arith, w.end_is, y.2))

  collection_begins : {r : Result Begin Refused} {end : ℕ} (k : Tree.Collection) → Deeper limits d t (Begin.Bracket (Mode.Head (collection_style k)) end) r →
      HeadHere text t.end (collection_head k) end → has_collection l k ≡ true → t.kind ≡ Kind.Symbol Sign.RoundOpen → So r
  collection_begins k x w i e =
      let o = opens_head k w i e in
      either _ x (λ h. too_deep o h)
      (λ h.
      record {
        from = λ y. head_place w;
        begun = λ K at a.
            record {
              config = want_curly (span_of t) k (span_of w.word) (span_of w.sign) K;
              stands = behind_head_lem k w i (goes_in o h K at a);
              within = refl;
              mode_is = refl;
              stack_is = refl;
              open_is = refl;
              no_member = λ i. refl;
              no_value = refl;
              no_first = refl;
            };
      })

  head_begins : {r : Result Begin Refused} {h : Head} {style : Style} {end : ℕ} → Deeper limits d t (Begin.Bracket (Mode.Head style) end) r →
      HeadHere text t.end h end → Collects forms h (Some style) → t.kind ≡ Kind.Symbol Sign.RoundOpen → So r
  head_begins {r} {h} {style} {end} x w c e =
      collection_begins c.0
      (subst (λ (y : Style). Deeper limits d t (Begin.Bracket (Mode.Head y) end) r) c.2 x)
      (subst (λ (y : Head). HeadHere text t.end y end) c.1 w) c.3 e

  -- ---- every way

  pub begins_so : {r : Result Begin Refused} → Begins text limits forms d t r → So r
  begins_so (a_literal h) = literal_begins h
  begins_so (a_name e) = names_begin e
  begins_so (a_mark m c) = mark_begins m c
  begins_so (a_later e) = later_begins e
  begins_so (curly e x) = curly_begins x e
  begins_so (square e i x) = square_begins x i e
  begins_so (square_newer e i) = square_newer_lem i e
  begins_so (headed h end style e w c x) = head_begins x w c e
  begins_so (head_newer h end e w i) = head_refused w i e
  begins_so (round g e k n x) = round_begins g x k n e
