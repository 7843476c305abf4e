-- A site over either store and either log, by what it holds.
use Rattle.store.specs.JournalModel.{journal_model}
use Rattle.store.specs.ChainsModel.{chains_model}
use Rattle.logs.specs.FlatModel.{flat_model}
use Rattle.logs.specs.PackedModel.{packed_model}
use Rattle.site.specs.SiteModel.{SiteModel, site_model}
use Rattle.group.specs.declared.any.AnySite.{AnySite}
use Rattle.group.specs.declared.any.AnySite.TheVariants.{JournalFlat, JournalPacked, ChainsFlat, ChainsPacked}

abbrev pub any_model : AnySite → SiteModel
any_model (JournalFlat s) = site_model journal_model flat_model s
any_model (JournalPacked s) = site_model journal_model packed_model s
any_model (ChainsFlat s) = site_model chains_model flat_model s
any_model (ChainsPacked s) = site_model chains_model packed_model s
