-- Answers and cascades on paper: a line that refuses decides, and no two answers are the same on paper. Assumes nothing.
use mathlib.Core.Path.{◌≡◌, refl, sym, ap, ◌∙◌}
use mathlib.Core.Bool.{Bool, true, false, not}
use mathlib.Core.List.{List, [], ◌∷◌}
use Prim.Native.Nat.{ℕ, ◌-◌, ◌≤◌}
use native.Mathlib.Omega.{arith}
use borrow.Author.Tests.{not-true, not-false, le-leb, leb-true}
use lib.Dec.{leb, eqb}
use lib.ListN.{length, get_or}
use Rattle.refusal.specs.declared.Refusal.{Refusal}
use Rattle.refusal.specs.declared.Refusal.TheVariants.{PointOutside, NoScale, NoSheet, LabelLength, FieldRange, NoSuch, WindowOrder, WindowOutside, TooMany, Room, EndsEarly, BadNumber, PastLast, MoreBytes, NotRising, NameForm, NameScale, NoNumber, StrangeByte, FieldForm, NamesNoScale, Not250000, NoMunicipality, NoProduct, NotOfCover, SeenBefore, Missing}
use Rattle.refusal.specs.declared.Numbered.{Numbered}
use Rattle.std.specs.Prelude.{Option, Some, None, unwrap_or, is_some, Result, Ok, Err}
use Rattle.refusal.specs.Paper.{Paper, answer, refused, is_answer, refuse◌at◌unless◌, refuse◌unless◌, ◌>>◌, ◌>>=◌, room_for, laid, counted, room_after}
use Rattle.refusal.specs.Numbers.{on_paper, carries, IsNumbered, paper}

-- ---- a line of a cascade, by the code's flag for its test: `if !flag { return .. }`

pub fails : {flag test : Bool} → flag ≡ test → not flag ≡ true → test ≡ false
fails {flag} e f = sym e ∙ not-true flag f

pub holds : {flag test : Bool} → flag ≡ test → not flag ≡ false → test ≡ true
holds {flag} e f = sym e ∙ not-false flag f

-- what is answered has passed each line
pub passed-at : {A : Type 0} (n v : ℕ) (test : Bool) (next : Paper A) {a : A} → ((refuse n at v unless test) >> next) ≡ answer a → (test ≡ true) × (next ≡ answer a)
passed-at n v true next e = (refl, e)
passed-at n v false next e = let z : ◌≡◌ {A = ℕ} 0 1 = cc in absurd (omega arith)

pub passed : {A : Type 0} (n : ℕ) (test : Bool) (next : Paper A) {a : A} → ((refuse n unless test) >> next) ≡ answer a → (test ≡ true) × (next ≡ answer a)
passed n test next e = passed-at n 0 test next e

-- and each question on the way had its answer
pub found : {A B : Type 0} (p : Paper A) (next : A → Paper B) {b : B} → (p >>= next) ≡ answer b → (a : A) × (p ≡ answer a) × (next a ≡ answer b)
found (answer a) next e = (a, refl, e)
found (refused number value) next e = let z : ◌≡◌ {A = ℕ} 0 1 = cc in absurd (omega arith)

pub same_answer : {A : Type 0} {a b : A} → answer a ≡ answer b → a ≡ b
same_answer e = cc

-- ---- two answers that meet one contract coincide

-- the refusal of a number and a value
abbrev refusal_at : ℕ → ℕ → Refusal
refusal_at n v = get_or (PointOutside ∷ NoScale ∷ NoSheet ∷ LabelLength v ∷ FieldRange v ∷ NoSuch ∷ WindowOrder ∷ WindowOutside ∷ TooMany ∷ Room v ∷ EndsEarly ∷ BadNumber ∷ PastLast ∷ MoreBytes ∷ NotRising ∷ NameForm ∷ NameScale ∷ NoNumber ∷ StrangeByte v ∷ FieldForm v ∷ NamesNoScale ∷ Not250000 ∷ NoMunicipality ∷ NoProduct ∷ NotOfCover v ∷ SeenBefore v ∷ Missing v ∷ []) (n - 1) NoNumber

-- from the paper back to an answer of a kind
abbrev pub read : {A X : Type 0} → (X → A) → (Refusal → A) → Paper X → A
read good bad (answer x) = good x
read good bad (refused n v) = bad (refusal_at n v)

pub read-refusal : {A X : Type 0} (good : X → A) (bad : Refusal → A) (why : Refusal) → read good bad (on_paper why) ≡ bad why
read-refusal good bad PointOutside = refl
read-refusal good bad NoScale = refl
read-refusal good bad NoSheet = refl
read-refusal good bad (LabelLength place) = refl
read-refusal good bad (FieldRange place) = refl
read-refusal good bad NoSuch = refl
read-refusal good bad WindowOrder = refl
read-refusal good bad WindowOutside = refl
read-refusal good bad TooMany = refl
read-refusal good bad (Room needed) = refl
read-refusal good bad EndsEarly = refl
read-refusal good bad BadNumber = refl
read-refusal good bad PastLast = refl
read-refusal good bad MoreBytes = refl
read-refusal good bad NotRising = refl
read-refusal good bad NameForm = refl
read-refusal good bad NameScale = refl
read-refusal good bad NoNumber = refl
read-refusal good bad (StrangeByte place) = refl
read-refusal good bad (FieldForm place) = refl
read-refusal good bad NamesNoScale = refl
read-refusal good bad Not250000 = refl
read-refusal good bad NoMunicipality = refl
read-refusal good bad NoProduct = refl
read-refusal good bad (NotOfCover place) = refl
read-refusal good bad (SeenBefore place) = refl
read-refusal good bad (Missing sheet) = refl

-- a refusal is no answer
pub no_answer : (A : Type 0) (why : Refusal) → is_answer (on_paper {A = A} why) ≡ false
no_answer A why = as_read (on_paper why) ∙ read-refusal (λ (x : A). true) (λ w. false) why
  where
    as_read : (p : Paper A) → is_answer p ≡ read (λ (x : A). true) (λ w. false) p
    as_read (answer x) = refl
    as_read (refused n v) = refl

-- and what is no refusal is one
pub some-answer : {A : Type 0} (p : Paper A) → is_answer p ≡ true → (a : A) × (p ≡ answer a)
some-answer (answer a) e = (a, refl)
some-answer (refused n v) e = let z : ◌≡◌ {A = ℕ} 0 1 = cc in absurd (omega arith)

-- a refusal has one number, which is not 0, and one value, whatever was asked; where it carries none, the value is 0
pub record OnPaper (why : Refusal) : Type 1 where
  pub number : ℕ
  pub some : eqb number 0 ≡ false
  pub value : ℕ
  pub bare : carries number ≡ false → value ≡ 0
  pub is : (A : Type 0) → on_paper {A = A} why ≡ refused number value

carried : (number value : ℕ) → carries number ≡ true → carries number ≡ false → value ≡ 0
carried number value e f = let z : ◌≡◌ {A = ℕ} 0 1 = cc in absurd (omega arith)

pub on-paper : (why : Refusal) → OnPaper why
on-paper PointOutside = record { number = 1; some = refl; value = 0; bare = λ e. refl; is = λ A. refl }
on-paper NoScale = record { number = 2; some = refl; value = 0; bare = λ e. refl; is = λ A. refl }
on-paper NoSheet = record { number = 3; some = refl; value = 0; bare = λ e. refl; is = λ A. refl }
on-paper (LabelLength place) = record { number = 4; some = refl; value = place; bare = carried 4 place refl; is = λ A. refl }
on-paper (FieldRange place) = record { number = 5; some = refl; value = place; bare = carried 5 place refl; is = λ A. refl }
on-paper NoSuch = record { number = 6; some = refl; value = 0; bare = λ e. refl; is = λ A. refl }
on-paper WindowOrder = record { number = 7; some = refl; value = 0; bare = λ e. refl; is = λ A. refl }
on-paper WindowOutside = record { number = 8; some = refl; value = 0; bare = λ e. refl; is = λ A. refl }
on-paper TooMany = record { number = 9; some = refl; value = 0; bare = λ e. refl; is = λ A. refl }
on-paper (Room needed) = record { number = 10; some = refl; value = needed; bare = carried 10 needed refl; is = λ A. refl }
on-paper EndsEarly = record { number = 11; some = refl; value = 0; bare = λ e. refl; is = λ A. refl }
on-paper BadNumber = record { number = 12; some = refl; value = 0; bare = λ e. refl; is = λ A. refl }
on-paper PastLast = record { number = 13; some = refl; value = 0; bare = λ e. refl; is = λ A. refl }
on-paper MoreBytes = record { number = 14; some = refl; value = 0; bare = λ e. refl; is = λ A. refl }
on-paper NotRising = record { number = 15; some = refl; value = 0; bare = λ e. refl; is = λ A. refl }
on-paper NameForm = record { number = 16; some = refl; value = 0; bare = λ e. refl; is = λ A. refl }
on-paper NameScale = record { number = 17; some = refl; value = 0; bare = λ e. refl; is = λ A. refl }
on-paper NoNumber = record { number = 18; some = refl; value = 0; bare = λ e. refl; is = λ A. refl }
on-paper (StrangeByte place) = record { number = 19; some = refl; value = place; bare = carried 19 place refl; is = λ A. refl }
on-paper (FieldForm place) = record { number = 20; some = refl; value = place; bare = carried 20 place refl; is = λ A. refl }
on-paper NamesNoScale = record { number = 21; some = refl; value = 0; bare = λ e. refl; is = λ A. refl }
on-paper Not250000 = record { number = 22; some = refl; value = 0; bare = λ e. refl; is = λ A. refl }
on-paper NoMunicipality = record { number = 23; some = refl; value = 0; bare = λ e. refl; is = λ A. refl }
on-paper NoProduct = record { number = 24; some = refl; value = 0; bare = λ e. refl; is = λ A. refl }
on-paper (NotOfCover place) = record { number = 25; some = refl; value = place; bare = carried 25 place refl; is = λ A. refl }
on-paper (SeenBefore place) = record { number = 26; some = refl; value = place; bare = carried 26 place refl; is = λ A. refl }
on-paper (Missing sheet) = record { number = 27; some = refl; value = sheet; bare = carried 27 sheet refl; is = λ A. refl }

same_carried : (a b : Option ℕ) → unwrap_or a 0 ≡ unwrap_or b 0 → is_some a ≡ is_some b → a ≡ b
same_carried None None e f = refl
same_carried None (Some y) e f = let z : ◌≡◌ {A = ℕ} 0 1 = cc in absurd (omega arith)
same_carried (Some x) None e f = let z : ◌≡◌ {A = ℕ} 0 1 = cc in absurd (omega arith)
same_carried (Some x) (Some y) e f = ap Some e

-- and there is one telling of it in numbers
pub one-numbering : {why : Refusal} {a b : Numbered} → IsNumbered why a → IsNumbered why b → a ≡ b
one-numbering {why} {a} {b} x y = λ i. record { number = number i; value = value i }
  where
    same : ◌≡◌ {A = Paper ℕ} (refused a.number (unwrap_or a.value 0)) (refused b.number (unwrap_or b.value 0))
    same = x.told ∙ sym y.told

    number : a.number ≡ b.number
    number = cc

    value : a.value ≡ b.value
    value = same_carried a.value b.value (cc) (x.carried ∙ ap carries number ∙ sym y.carried)

-- a kind of answer that its word on paper gives back
pub record Told {A X : Type 0} (word : A → Paper X) : Type 0 where
  pub back : Paper X → A
  pub again : (a : A) → back (word a) ≡ a

-- so two answers that meet one contract, `word r ≡ definition`, are the same
pub two-told : {A X : Type 0} {word : A → Paper X} → Told word → {a b : A} {d : Paper X} → word a ≡ d → word b ≡ d → a ≡ b
two-told t {a} {b} e f = sym (t.again a) ∙ ap t.back (e ∙ sym f) ∙ t.again b

-- what the code answers is such a kind, whatever is answered
pub paper-told : {A : Type 0} → Told (paper {A = A})
paper-told = record { back = read Ok Err; again = again }
  where
    again : {A : Type 0} (r : Result A Refusal) → read Ok Err (paper r) ≡ r
    again (Ok answered) = refl
    again (Err why) = read-refusal Ok Err why

pub coincide : {A : Type 0} {a b : Result A Refusal} {d : Paper A} → paper a ≡ d → paper b ≡ d → a ≡ b
coincide e f = two-told paper-told e f

-- ---- what is answered has passed every line in front of it, and a line that refuses decides

-- an answer is no refusal, and two refusals that are the same have the same number and value
pub differs : {A : Type 0} {a : A} {n v : ℕ} → answer a ≡ refused n v → ⊥
differs e = let z : ◌≡◌ {A = ℕ} 0 1 = cc in omega arith

pub same_number : {A : Type 0} {m n v w : ℕ} → ◌≡◌ {A = Paper A} (refused m v) (refused n w) → m ≡ n
same_number e = cc

pub same-value : {A : Type 0} {m n v w : ℕ} → ◌≡◌ {A = Paper A} (refused m v) (refused n w) → v ≡ w
same-value e = cc

-- a test alone, and the test for room
pub passed-test-at : (n v : ℕ) (test : Bool) {u : Unit} → (refuse n at v unless test) ≡ answer u → test ≡ true
passed-test-at n v true e = refl
passed-test-at n v false e = absurd (differs (sym e))

pub passed-test : (n : ℕ) (test : Bool) {u : Unit} → (refuse n unless test) ≡ answer u → test ≡ true
passed-test n test e = passed-test-at n 0 test e

pub passed-room : (needed room : ℕ) {u : Unit} → room_for needed room ≡ answer u → needed ≤ room
passed-room needed room e = leb-true needed room (passed-test-at 10 needed (leb needed room) e)

-- any judge, and what comes after it
pub passed-judge : {A : Type 0} (p : Paper Unit) (next : Paper A) {a : A} → (p >> next) ≡ answer a → (p ≡ answer tt) × (next ≡ answer a)
passed-judge (answer fine) next e = (refl, e)
passed-judge (refused n v) next e = absurd (differs (sym e))

pub judge-refuses : {A : Type 0} {p : Paper Unit} (why : Refusal) (next : Paper A) → p ≡ on_paper why → (p >> next) ≡ on_paper why
judge-refuses {A} why next e = rw (e, (on-paper why).is A, (on-paper why).is Unit)

-- a question that refuses is repeated by whatever would ask on
pub asked-on : {A B : Type 0} {p : Paper A} (why : Refusal) (next : A → Paper B) → on_paper why ≡ p → on_paper why ≡ (p >>= next)
asked-on {A} {B} why next e = rw (← e, (on-paper why).is A, (on-paper why).is B)

-- and if nothing that is asked on would refuse, the question did
pub asked-back : {A B : Type 0} (p : Paper A) (next : A → B) (why : Refusal) → on_paper why ≡ (p >>= λ a. answer (next a)) → on_paper why ≡ p
asked-back {B = B} (answer a) next why e = absurd (differs (sym e ∙ (on-paper why).is B))
asked-back {A} {B} (refused n v) next why e =
    let f : ◌≡◌ {A = Paper B} (refused (on-paper why).number (on-paper why).value) (refused n v) = sym ((on-paper why).is B) ∙ e in
    (on-paper why).is A ∙ rw (same_number f, same-value f)

-- items that are laid: all of them, where there is room
pub laid-fits : (items : List ℕ) {room : ℕ} → length items ≤ room → laid items room ≡ answer items
laid-fits items {room} h = rw (le-leb (length items) room h)

pub laid-answered : (items : List ℕ) (room : ℕ) {xs : List ℕ} → laid items room ≡ answer xs → (items ≡ xs) × (length items ≤ room)
laid-answered items room e = let p = passed-judge (room_for (length items) room) (answer items) e in (same_answer p.1, passed-room (length items) room p.0)

-- a judge that refuses in front of an answer refuses in front of anything
pub refuses-so : {A B : Type 0} (p : Paper Unit) (a : A) (next : Paper B) (why : Refusal) → (p >> answer a) ≡ on_paper why → (p >> next) ≡ on_paper why
refuses-so {A} {B} (answer fine) a next why e = absurd (differs (e ∙ (on-paper why).is A))
refuses-so {A} {B} (refused n v) a next why e =
    let f : ◌≡◌ {A = Paper A} (refused n v) (refused (on-paper why).number (on-paper why).value) = e ∙ (on-paper why).is A in
    rw ((on-paper why).is B, same_number f, same-value f)

-- a refusal is told as it is, and leaves the room
pub told-refused : (why : Refusal) (room : List ℕ) → (on_paper why ≡ counted (on_paper why)) × (room ≡ room_after (on_paper why) room)
told-refused why room = rw ((on-paper why).is ℕ, (on-paper why).is (List ℕ)) (refl, refl)
