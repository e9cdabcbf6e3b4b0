-- Canonical texts, computed.
use Rattle.std.specs.Prelude.{◌≡◌, ℕ, List, [], ◌∷◌, ◌++◌, codes}
use Rattle.std.proofs.Common.{refl}
use Rattle.xmi_profile.specs.Canon.{canon}
use Rattle.model_assembly.proofs.Small.{cls, two_classes, box_in_box}

abbrev line : List ℕ → List ℕ
line text = text ++ 10 ∷ []

abbrev head_lines : List ℕ → List ℕ
head_lines name =
    line (codes "<?xml version=\"1.0\" encoding=\"UTF-8\"?>")
    ++ line (codes "<xmi:XMI xmi:version=\"20131001\" xmlns:xmi=\"http://www.omg.org/spec/XMI/20131001\" xmlns:m=\"" ++ name ++ codes "\">")

pub model_without_objects : canon (record { meta = cls; objects = [] }) ≡ head_lines (codes "Cls") ++ line (codes "</xmi:XMI>")
model_without_objects = refl

pub two_linked_objects : canon two_classes ≡
    head_lines (codes "Cls")
    ++ (line (codes "  <m:Class xmi:id=\"c1\" xmi:type=\"m:Class\" name=\"A\" uses=\"_1\"/>")
    ++ (line (codes "  <m:Class xmi:id=\"_1\" xmi:type=\"m:Class\" name=\"B&#10;&amp;\" usedBy=\"c1\"/>")
    ++ line (codes "</xmi:XMI>")))
two_linked_objects = refl

pub parts_stand_in_their_owner : canon box_in_box ≡
    head_lines (codes "Boxes")
    ++ (line (codes "  <m:Box xmi:id=\"b\" xmi:type=\"m:Box\">")
    ++ (line (codes "    <tags/>")
    ++ (line (codes "    <tags>x</tags>")
    ++ (line (codes "    <parts xmi:id=\"c\" xmi:type=\"m:Box\"/>")
    ++ (line (codes "  </m:Box>")
    ++ line (codes "</xmi:XMI>"))))))
parts_stand_in_their_owner = refl
