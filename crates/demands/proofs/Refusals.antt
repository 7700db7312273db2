-- Each question gives only the refusals listed for it: they are those of the lines of its definition. What a label's refusal carries is the
-- place of its fault. Assumes nothing.
use mathlib.Core.Path.{◌≡◌, refl, sym, subst}
use mathlib.Core.Bool.{Bool, true, false, cond}
use mathlib.Core.List.{List, [], ◌∷◌}
use Rattle.std.specs.Prelude.{unwrap_or}
use Prim.Native.Nat.{ℕ}
use lib.ListN.{length, get_or}
use Rattle.refusal.specs.Paper.{Paper, ◌>>=◌}
use Rattle.refusal.specs.Numbers.{is_in}
use Rattle.division.specs.Words.{◌≤?◌, ◌=?◌, between}
use Rattle.division.specs.Table.{rows, columns, is_scale, parent_scale}
use Rattle.division.specs.Grid.{area, owns}
use Rattle.division.specs.Sheet.{is_sheet, scale_of, place_of, on_grid, locate, sheet_on, sheet_at, corners_of}
use Rattle.relations.specs.Relations.{is_part, parent, child, stays, walk, step, offset}
use Rattle.division.specs.Cover.{sheets_in, cover, block_in}
use Rattle.delivery.specs.Delivery.{check_delivery}
use Rattle.frame.specs.Metres.{frame_of, sheet_at_metres, frame_at_metres}
use Rattle.frame.proofs.PointTheorems.{answered}
use Rattle.frame.proofs.FrameTheorems.{frame-exact}
use Rattle.local.specs.declared.Local.{Local}
use Rattle.local.specs.declared.Local.TheVariants.{One, Two, Three}
use Rattle.municipality.specs.Municipality.{of2000, municipality}
use Rattle.local.specs.Numbers.{sheet_numbered, part, stands_for, local_to_sheet, number_of, one_number, two_numbers, three_numbers, numbers_of, sheet_to_local}
use Rattle.label.specs.Text.{split}
use Rattle.label.specs.Label.{label_of, write_label, label_length}
use Rattle.label.proofs.PlaceTheorems.{refused-iff, place-within}
use Rattle.reading.specs.Front.{read_front}
use Rattle.catalogue.specs.Ground.{read_ground}
use Rattle.catalogue.proofs.LineTheorems.{label-refuses}
use Rattle.official.specs.Lookup.{name_of, is250000, write_name, name_told}
use Rattle.official.specs.Verdict.{check_at, check_line}
use Rattle.official.proofs.VerdictTheorems.{place-repeated}
use Rattle.holding.specs.declared.Task.{Task}
use Rattle.holding.specs.declared.Task.TheVariants.{Writing, Reading}
use Rattle.holding.specs.Holding.{has_product, past, holding, parts_of}
use Rattle.shelf.specs.Kind.{of_sheets, of_holdings, kind_of, KindName, Sheets, Holdings}
use Rattle.shelf.specs.Writing.{list_bytes, bytes_in, write_in, length_in}
use Rattle.shelf.proofs.HoldingsTheorems.{read_as}
use Rattle.demands.specs.Refusals.{Gives, answers, RefusalsNumbered, PlacesTold}
use Rattle.demands.proofs.GivesLaws.{test-gives, then-gives, line_gives, found-gives, answered-gives, metres-give, laid-gives, label-gives, line-of-gives, cover-gives, delivery-gives, rising-gives, set_gives, count_gives, judge-gives, reading-gives}

name-gives : (n room : ℕ) → Gives (3 ∷ 22 ∷ 10 ∷ []) (write_name n room)
unfolding write_name
name-gives n room = line_gives 3 (is_sheet n) refl (line_gives 22 (is250000 n) refl (laid-gives (unwrap_or (name_of n) []) room refl))

-- a municipality is judged, and its sheets and their parts are asked as any sheet's are
abbrev Municipal : {A : Type 0} → Paper A → Type 0
Municipal p = Gives (23 ∷ 3 ∷ 15 ∷ 6 ∷ []) p

municipality-gives : (sheets : List ℕ) → Municipal (municipality sheets)
unfolding municipality
municipality-gives sheets =
    line_gives 23 (between 1 400 (length sheets)) refl (rising-gives of2000 (λ n. line_gives 3 (is_sheet n) refl (test-gives 23 (scale_of n =? 7) refl)) refl 0 sheets)

part_gives : (scale number : ℕ) → is_scale scale ≡ true → {above : Paper ℕ} → Municipal above → Municipal (part above scale number)
unfolding child
part_gives s a e g = found-gives g λ k. line_gives 3 (is_sheet k) refl (rw e (line_gives 6 (is_part s (scale_of k) a) refl answers))

parent-gives : (k : ℕ) → Municipal (parent k)
unfolding parent
parent-gives k = line_gives 3 (is_sheet k) refl (line_gives 6 (1 ≤? parent_scale (scale_of k)) refl answers)

module _ (sheets : List ℕ) where
  sheet-gives : (n : ℕ) → Municipal (sheet_numbered sheets n)
  unfolding sheet_numbered
  sheet-gives n = line_gives 6 (between 1 (length sheets) n) refl answers

  local-gives : (local : Local) → Municipal (stands_for sheets local)
  unfolding stands_for
  local-gives (One n) = sheet-gives n
  local-gives (Two n a) = part_gives 8 a refl (sheet-gives n)
  local-gives (Three n a b) = part_gives 9 b refl (part_gives 8 a refl (sheet-gives n))

  place-gives : {A : Type 0} (k : ℕ) {next : ℕ → Paper A} → ((n : ℕ) → Municipal (next n)) → Municipal (number_of sheets k >>= next)
  unfolding number_of
  place-gives k g = found-gives (line_gives 6 (is_in sheets k) refl answers) g

  known-gives : (n : ℕ) → Municipal (numbers_of sheets n)
  unfolding numbers_of one_number two_numbers three_numbers
  known-gives n = line_gives 3 (is_sheet n) refl (line_gives 6 (7 ≤? scale_of n) refl (by (scale_of n =? 7) (scale_of n =? 8)))
    where
      by : (a b : Bool) → Municipal (cond a (one_number sheets n) (cond b (two_numbers sheets n) (three_numbers sheets n)))
      by true b = place-gives n λ i. answers
      by false true = found-gives (parent-gives n) λ up. place-gives up λ i. answers
      by false false = found-gives (parent-gives n) λ up. found-gives (parent-gives up) λ top. place-gives top λ i. answers

judged-gives : (kind : KindName) (task : Task) (number : ℕ) → Gives (past task ∷ 24 ∷ []) ((kind_of kind).judge (past task) number)
judged-gives kind Writing number = judge-gives kind 3 number refl refl
judged-gives kind Reading number = judge-gives kind 13 number refl refl

pub refusals-numbered : RefusalsNumbered
unfolding sheet_at locate sheet_on corners_of frame_of frame_at_metres parent child step walk offset cover block_in write_label label_length read_front read_ground name_told check_line check_at write_in length_in holding parts_of local_to_sheet sheet_to_local check_delivery
refusals-numbered = record {
  points = λ s e n. line_gives 2 (is_scale s) refl (line_gives 1 (owns area e n) refl answers);
  corners = λ n. line_gives 3 (is_sheet n) refl answers;
  metres = metres-give refl refl refl;
  frames = λ n. found-gives (line_gives 3 (is_sheet n) refl answers) λ ground. answers;
  framed = λ s e n.
      answered-gives (sheet_at_metres s e n) (metres-give refl refl refl s e n) λ k a.
      subst (Gives (2 ∷ 18 ∷ 1 ∷ [])) (sym (frame-exact k (answered s e n a).4.sheet).1) answers;
  located = λ n. line_gives 3 (is_sheet n) refl answers;
  places = λ s p. line_gives 2 (is_scale s) refl (line_gives 6 (on_grid s p) refl answers);
  parents = λ n. line_gives 3 (is_sheet n) refl (line_gives 6 (1 ≤? parent_scale (scale_of n)) refl answers);
  children = λ n s number. line_gives 3 (is_sheet n) refl (line_gives 2 (is_scale s) refl (line_gives 6 (is_part s (scale_of n) number) refl answers));
  steps = λ n east south.
      let c = stays (place_of n).column east (columns (scale_of n)) in
      let r = stays (place_of n).row south (rows (scale_of n)) in
      line_gives 3 (is_sheet n) refl (line_gives 6 c refl (line_gives 6 r refl answers));
  offsets = λ a b. line_gives 3 (is_sheet a) refl (line_gives 3 (is_sheet b) refl (line_gives 6 (scale_of a =? scale_of b) refl answers));
  covers = λ s w room. then-gives (cover-gives refl refl refl refl s w) (laid-gives (sheets_in s w) room refl);
  blocks = λ s w. then-gives (cover-gives refl refl refl refl s w) answers;
  deliveries = λ s w sheets. then-gives (cover-gives refl refl refl refl s w) (delivery-gives refl refl refl (sheets_in s w) sheets);
  labels = label-gives refl refl refl refl refl;
  labelled = λ n room. line_gives 3 (is_sheet n) refl (laid-gives (label_of n) room refl);
  measured = λ n. line_gives 3 (is_sheet n) refl answers;
  lines = line-of-gives (label-gives refl refl refl refl refl) refl refl;
  fronts = λ line. found-gives (label-gives refl refl refl refl refl (get_or (split 32 line) 0 [])) λ n. answers;
  grounds = λ line. found-gives (line-of-gives (label-gives refl refl refl refl refl) refl refl line) λ n. answers;
  names = name-gives;
  named = λ n room. found-gives (name-gives n room) λ written. answers;
  checks = λ line. found-gives (line-of-gives (label-gives refl refl refl refl refl) refl refl line) λ n. line_gives 22 (is250000 n) refl answers;
  locals = λ sheets local. then-gives (municipality-gives sheets) (local-gives sheets local);
  localised = λ sheets n. then-gives (municipality-gives sheets) (known-gives sheets n);
  lists = λ sheets room. then-gives (set_gives of_sheets (λ n. test-gives 3 (is_sheet n) refl) refl refl sheets) (laid-gives (list_bytes sheets) room refl);
  sized = λ sheets. then-gives (set_gives of_sheets (λ n. test-gives 3 (is_sheet n) refl) refl refl sheets) answers;
  reading = reading-gives Sheets refl refl refl refl λ n. test-gives 13 (is_sheet n) refl;
  held = λ sheet product. line_gives 3 (is_sheet sheet) refl (line_gives 24 (has_product (scale_of sheet) product) refl answers);
  parted = λ number. then-gives (judge-gives Holdings 3 number refl refl) answers;
  judged = judged-gives;
  counted = λ kind first. count_gives kind first refl;
  holdings = λ holdings room. then-gives (set_gives of_holdings (λ n. judge-gives Holdings 3 n refl refl) refl refl holdings) (laid-gives (bytes_in of_holdings holdings) room refl);
  holdings-sized = λ holdings. then-gives (set_gives of_holdings (λ n. judge-gives Holdings 3 n refl refl) refl refl holdings) answers;
  holdings-reading = λ bytes room. let r = read_as bytes room in rw r.1 (reading-gives r.0 refl refl refl refl (λ n. judge-gives r.0 13 n refl refl) bytes room);
}

pub places-told : PlacesTold
places-told = record { wrong = refused-iff; within = place-within; repeated = label-refuses; checked = place-repeated }
