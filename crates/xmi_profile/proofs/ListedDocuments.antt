-- The elements that are listed of a document.
use Rattle.std.proofs.Common.{◌≡◌, ℕ, List, map, ◌∙◌, ap, Ok}
use Rattle.std.specs.Prelude.{Option}
use Rattle.mof_metamodel.specs.declared.desc.MetaDesc.{MetaDesc}
use Rattle.xmi_text.specs.declared.error.TextFault.{TextFault}
use Rattle.xmi_text.specs.Markup.{Markup}
use Rattle.xmi_text.specs.Reading.{marks_of}
use Rattle.xmi_text.specs.Trees.{Tree, Event, Spells, told}
use Rattle.xmi_text.proofs.forward.Spelled.{markup_spelled}
use Rattle.model_assembly.specs.declared.fault.Externs.{Externs}
use Rattle.xmi_profile.specs.Bytes.{listing_of, unless_fault}
use Rattle.model_assembly.specs.Elements.{items}
use Rattle.xmi_profile.specs.Listing.{Listing, nothing, listed, element_of}
use Rattle.xmi_profile.proofs.ListingLaws.{listed_tree}

pub listed_document : (meta : MetaDesc) (outside : Externs) (bytes : List ℕ) (tree : Tree) → Markup bytes tree
    → (l : Listing) × (listing_of meta outside bytes ≡ Ok l) × (l.elements ≡ map element_of (items meta outside tree))
listed_document meta outside bytes tree m =
    let s : Spells bytes tree = markup_spelled bytes tree m in
    let l : Listing = listed meta outside nothing (told (marks_of bytes)) in (
      l,
      ap (λ (fault : Option TextFault). unless_fault fault l) s.whole,
      ap (λ (es : List Event). (listed meta outside nothing es).elements) s.read ∙ listed_tree meta outside tree,
    )
