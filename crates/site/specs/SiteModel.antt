-- What a site holds.
use Rattle.std.specs.Prelude.{ℕ, List, Option, slice_set}
use Rattle.store.specs.StoreModel.{StoreModel}
use Rattle.logs.specs.LogModel.{LogModel, least}
use Rattle.site.specs.declared.modes.Mode.{Mode}
use Rattle.site.specs.declared.site.Site.{Site}
use Rattle.site.specs.Slots.{SlotModel, slots_model, least_needed}

-- A site: its number, the group's size, its store and log, its mode, its slots, and how many writes of the next version
-- are staged where a change is under way.
pub record SiteModel : Type 0 where
  pub number : ℕ
  pub sites : ℕ
  pub store : StoreModel
  pub log : LogModel
  pub mode : Mode
  pub slots : List SlotModel
  pub change : Option ℕ

abbrev pub a_site : ℕ → ℕ → StoreModel → LogModel → Mode → List SlotModel → Option ℕ → SiteModel
a_site i n s l m ss c = record { number = i; sites = n; store = s; log = l; mode = m; slots = ss; change = c }

abbrev pub site_model : {S L : Type 0} → (S → StoreModel) → (L → LogModel) → Site S L → SiteModel
site_model store_of log_of s =
    a_site s.home.number s.home.sites (store_of s.store) (log_of s.log) s.mode (slots_model s.slots) s.change

-- The same site with another store, log, mode, slots or change.
abbrev pub with_store : SiteModel → StoreModel → SiteModel
with_store m s = a_site m.number m.sites s m.log m.mode m.slots m.change

abbrev pub with_log : SiteModel → LogModel → SiteModel
with_log m l = a_site m.number m.sites m.store l m.mode m.slots m.change

abbrev pub with_mode : SiteModel → Mode → SiteModel
with_mode m k = a_site m.number m.sites m.store m.log k m.slots m.change

abbrev pub with_slots : SiteModel → List SlotModel → SiteModel
with_slots m ss = a_site m.number m.sites m.store m.log m.mode ss m.change

abbrev pub with_change : SiteModel → Option ℕ → SiteModel
with_change m c = a_site m.number m.sites m.store m.log m.mode m.slots c

abbrev pub with_slot : SiteModel → ℕ → SlotModel → SiteModel
with_slot m i s = with_slots m (slice_set m.slots i s)

-- Keep: the least of V and the snapshots of open and posted slots. The horizon: the least known number.
abbrev pub keep : SiteModel → ℕ
keep m = least_needed m.store.version m.slots

abbrev pub horizon : SiteModel → ℕ
horizon m = least m.log.known
