-- The words for calls and sheets in a listing, byte by byte.
--     pass_text p      a call
--     done q           what a filter of the sort q does to a sheet
--     sheet_name s     the name of a sheet
--     reason s         which filters were accepted where the sheet s stands
--     first_of s       the sort of the first of them, if there is one
--     went_ahead a     a is the answer to a filter that went ahead
use Rattle.std.specs.Prelude.{ℕ, Bool, true, false, List, [], ◌++◌, codes, Some, None, Option}
use Rattle.std.specs.Fmt.{decimal}
use Rattle.morphology.specs.Calls.{filter_name}
use Rattle.morphology.specs.Standing.{filter_of, other}
use Rattle.morphology.specs.declared.call.Answer.{Answer}
use Rattle.morphology.specs.declared.call.Answer.TheVariants.{Laid, Picks, Refused}
use Rattle.morphology.specs.declared.standing.Sort.{Sort}
use Rattle.morphology.specs.declared.standing.Sort.TheVariants.{Opening, Closing}
use Rattle.morphology.specs.declared.standing.Standing.{Standing}
use Rattle.morphology.specs.declared.standing.Standing.TheVariants.{Loaded, Once, Twice, Thrice}
use Rattle.sheetlaws.specs.declared.job.Pass.{Pass}

abbrev pub sort_name : Sort → List ℕ
sort_name q = filter_name (filter_of q)

abbrev pub with_cells : Option ℕ → List ℕ
with_cells None = []
with_cells (Some n) = codes " with " ++ decimal n ++ codes " cells"

-- with the cells of its table, where the job tells them
abbrev pub pass_text : Pass → List ℕ
pass_text p = sort_name p.sort ++ with_cells p.cells

abbrev pub done : Sort → List ℕ
done Opening = codes "opened"
done Closing = codes "closed"

-- what was done to the loaded one, in the order of time
abbrev pub sheet_name : Standing → List ℕ
sheet_name Loaded = codes "loaded"
sheet_name (Once q) = done q
sheet_name (Twice q) = done q ++ codes "-" ++ done (other q)
sheet_name (Thrice q) = done q ++ codes "-" ++ done (other q) ++ codes "-" ++ done q

abbrev pub reason : Standing → List ℕ
reason Loaded = codes "so the sheet is as it was loaded"
reason (Once q) = codes "all of them " ++ sort_name q ++ codes ", so the sheet is " ++ done q ++ codes " once"
reason (Twice q) =
    codes "the first " ++ sort_name q ++ codes ", the last " ++ sort_name (other q)
    ++ codes ", so the sheet is " ++ done q ++ codes " and then " ++ done (other q)
reason (Thrice q) =
    codes "the first and the last " ++ sort_name q ++ codes ", with " ++ sort_name (other q) ++ codes " between them, so the sheet is "
    ++ done q ++ codes ", " ++ done (other q) ++ codes " and " ++ done q ++ codes " again"

abbrev pub first_of : Standing → Option Sort
first_of Loaded = None
first_of (Once q) = Some q
first_of (Twice q) = Some q
first_of (Thrice q) = Some q

-- it made picks
abbrev pub went_ahead : Answer → Bool
went_ahead Laid = false
went_ahead (Picks n) = true
went_ahead (Refused r) = false
