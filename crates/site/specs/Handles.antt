-- Handles by their numbers.
use Rattle.std.specs.Prelude.{ℕ}
use Rattle.site.specs.declared.handles.Handle.{Handle}
use Rattle.site.specs.declared.handles.Draft.{Draft}
use Rattle.site.specs.declared.handles.Posted.{Posted}

abbrev pub a_handle : ℕ → ℕ → ℕ → Handle
a_handle i k t = record { site = i; slot = k; ticket = t }

abbrev pub draft_handle : Draft → Handle
draft_handle d = d.0

abbrev pub posted_handle : Posted → Handle
posted_handle p = p.0
