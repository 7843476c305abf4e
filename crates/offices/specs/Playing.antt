-- What a scenario is played on.
use Rattle.std.specs.Prelude.{◌≡◌, ℕ, true, false, List, Some, None, Option}
use Rattle.words.specs.Bits.{is_group}
use Rattle.site.specs.SiteModel.{SiteModel}
use Rattle.group.specs.declared.group.Group.{Group}
use Rattle.group.specs.declared.any.AnySite.{AnySite}
use Rattle.group.specs.AnyModel.{any_model}
use Rattle.group.specs.Groups.{group_model, Starts}

-- The sites of the group, by number.
abbrev pub sites_of : Group AnySite → List SiteModel
sites_of g = group_model any_model g

-- A group that is made stands at the beginning of a run; none is made only where there cannot be so many sites.
abbrev pub Opened : ℕ → Option (Group AnySite) → Type 0
Opened n None = is_group n ≡ false
Opened n (Some g) = (is_group n ≡ true) × Starts (sites_of g)
