-- The theorems of the demands and of the requests by name, so that the loss of one fails the check of this crate. docs/TRACE.md names the same.
pub use Rattle.demands.proofs.Demands.{demand-1-numbers, demand-1-one-number, demand-1-files, demand-1-file-numbers, demand-1-partition, demand-1-pass, demand-1-choose, demand-1-price, demand-1-fair, demand-1-fact-layer, demand-1-round-layer, demand-1-plan, demand-1-find, demand-1-save, demand-1-compare, demand-1-partition-kept, demand-1-fair-kept, demand-1-fact-layer-kept, demand-1-round-layer-kept, demand-1-plan-kept, demand-1-save-kept, demand-1-name, demand-1-name-absent, demand-1-name-result, demand-1-name-part, demand-1-partition-else, demand-1-pass-else, demand-1-choose-else, demand-1-price-else, demand-1-fair-else, demand-1-fact-layer-else, demand-1-round-layer-else, demand-1-plan-else, demand-1-find-else, demand-1-compare-else, demand-1-save-else, demand-1-find-result, demand-1-find-lowest, demand-1-find-none, demand-1-alike, demand-1-compare-result, demand-2-reading, demand-2-read-back, demand-2-partition, demand-2-pass, demand-2-choose, demand-2-fair, demand-2-fact-layer, demand-2-round-layer, demand-2-save, demand-2-one-writing, demand-3-choice, demand-3-no-selection, demand-3-plan, demand-3-no-plan}
pub use Rattle.demands.proofs.Saving.{save-reads, save-only, save-length, save-refusals, save-one-writing, save-two-ways, save-same, save-back}
pub use Rattle.demands.proofs.Bounds.{pass-bounds, pass-most, pass-excludes, pass-leaves-none, choose-place, choose-excludes, choose-none-short, choose-later, choose-by-passes, program-place}
pub use Rattle.demands.proofs.Naming.{names-tested, names-reflexive, names-symmetric, names-transitive, names-by-bytes, table-fixed, order-one, decomposition-one, find-either, find-named, find-empty, find-long}
pub use Rattle.demands.proofs.Pricing.{price-none, price-some, price-none-place, price-selects, price-least, price-smallest, price-total, price-tax, prices-aside}
pub use Rattle.demands.proofs.Moving.{one-price-moves, one-price-stays, one-price-only, one-price-fits}
pub use Rattle.demands.proofs.Fairs.{fair_fits, fair-entry, fair-lacks, fair-unsaved, fair-none, fair-chosen, fair-own, fair-kept, never-18}
