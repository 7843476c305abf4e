-- What holds of every site, by what holds of its store and its log.
use Rattle.std.proofs.Common.{◌∙◌}
use Rattle.std.proofs.lemmas.List.{length-map}
use Rattle.store.specs.StoreModel.{StoreModel, Bounded as StoreBounded}
use Rattle.logs.specs.LogModel.{LogModel, Bounded as LogBounded}
use Rattle.site.specs.declared.site.Site.{Site}
use Rattle.site.specs.Slots.{slot_model}
use Rattle.site.specs.SiteModel.{site_model}
use Rattle.site.specs.Spoken.{Bounded}

pub site_bounded : {S L : Type 0} (store_of : S → StoreModel) (log_of : L → LogModel) (s : Site S L) →
    StoreBounded (store_of s.store) → LogBounded (log_of s.log) → Bounded (site_model store_of log_of s)
site_bounded store_of log_of s a b = record { store = a; log = b; eight = length-map s.slots.table slot_model ∙ s.slots.eight }
