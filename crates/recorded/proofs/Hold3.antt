-- The definitions answer as recorded: antt computes it. By tools/model-replay. Assumes nothing.
use mathlib.Core.Path.{refl}
use Rattle.against_rust.specs.Shape.{RunHolds}
use Rattle.against_rust.proofs.OpenRuns.{open-runs}
use Rattle.recorded.specs.Runs3.{run588, run589, run590, run591, run592, run593, run594, run595, run596, run597, run598, run599, run600, run601, run602, run603, run604, run605, run606, run607, run608, run609, run610, run611, run612, run613, run614, run615, run616, run617, run618, run619, run620, run621, run622, run623, run624, run625, run626, run627, run628, run629, run630, run631, run632, run633, run634, run635, run636, run637, run638, run639, run640, run641, run642, run643, run644, run645, run646, run647, run648, run649, run650, run651, run652, run653, run654, run655, run656, run657, run658, run659, run660, run661, run662, run663, run664, run665, run666, run667, run668, run669, run670, run671, run672, run673, run674, run675, run676, run677, run678, run679, run680, run681, run682, run683, run684, run685, run686, run687, run688, run689, run690, run691, run692, run693, run694, run695, run696, run697, run698, run699, run700, run701, run702, run703, run704, run705, run706, run707, run708, run709, run710, run711, run712, run713, run714, run715, run716, run717, run718, run719, run720, run721, run722, run723, run724, run725, run726, run727, run728, run729, run730, run731, run732, run733, run734, run735, run736, run737, run738, run739, run740, run741, run742, run743, run744, run745, run746, run747, run748, run749, run750, run751, run752, run753, run754, run755, run756, run757, run758, run759, run760}

pub hold588 : RunHolds run588
unfolding open-runs run588
hold588 = refl

pub hold589 : RunHolds run589
unfolding open-runs run589
hold589 = refl

pub hold590 : RunHolds run590
unfolding open-runs run590
hold590 = refl

pub hold591 : RunHolds run591
unfolding open-runs run591
hold591 = refl

pub hold592 : RunHolds run592
unfolding open-runs run592
hold592 = refl

pub hold593 : RunHolds run593
unfolding open-runs run593
hold593 = refl

pub hold594 : RunHolds run594
unfolding open-runs run594
hold594 = refl

pub hold595 : RunHolds run595
unfolding open-runs run595
hold595 = refl

pub hold596 : RunHolds run596
unfolding open-runs run596
hold596 = refl

pub hold597 : RunHolds run597
unfolding open-runs run597
hold597 = refl

pub hold598 : RunHolds run598
unfolding open-runs run598
hold598 = refl

pub hold599 : RunHolds run599
unfolding open-runs run599
hold599 = refl

pub hold600 : RunHolds run600
unfolding open-runs run600
hold600 = refl

pub hold601 : RunHolds run601
unfolding open-runs run601
hold601 = refl

pub hold602 : RunHolds run602
unfolding open-runs run602
hold602 = refl

pub hold603 : RunHolds run603
unfolding open-runs run603
hold603 = refl

pub hold604 : RunHolds run604
unfolding open-runs run604
hold604 = refl

pub hold605 : RunHolds run605
unfolding open-runs run605
hold605 = refl

pub hold606 : RunHolds run606
unfolding open-runs run606
hold606 = refl

pub hold607 : RunHolds run607
unfolding open-runs run607
hold607 = refl

pub hold608 : RunHolds run608
unfolding open-runs run608
hold608 = refl

pub hold609 : RunHolds run609
unfolding open-runs run609
hold609 = refl

pub hold610 : RunHolds run610
unfolding open-runs run610
hold610 = refl

pub hold611 : RunHolds run611
unfolding open-runs run611
hold611 = refl

pub hold612 : RunHolds run612
unfolding open-runs run612
hold612 = refl

pub hold613 : RunHolds run613
unfolding open-runs run613
hold613 = refl

pub hold614 : RunHolds run614
unfolding open-runs run614
hold614 = refl

pub hold615 : RunHolds run615
unfolding open-runs run615
hold615 = refl

pub hold616 : RunHolds run616
unfolding open-runs run616
hold616 = refl

pub hold617 : RunHolds run617
unfolding open-runs run617
hold617 = refl

pub hold618 : RunHolds run618
unfolding open-runs run618
hold618 = refl

pub hold619 : RunHolds run619
unfolding open-runs run619
hold619 = refl

pub hold620 : RunHolds run620
unfolding open-runs run620
hold620 = refl

pub hold621 : RunHolds run621
unfolding open-runs run621
hold621 = refl

pub hold622 : RunHolds run622
unfolding open-runs run622
hold622 = refl

pub hold623 : RunHolds run623
unfolding open-runs run623
hold623 = refl

pub hold624 : RunHolds run624
unfolding open-runs run624
hold624 = refl

pub hold625 : RunHolds run625
unfolding open-runs run625
hold625 = refl

pub hold626 : RunHolds run626
unfolding open-runs run626
hold626 = refl

pub hold627 : RunHolds run627
unfolding open-runs run627
hold627 = refl

pub hold628 : RunHolds run628
unfolding open-runs run628
hold628 = refl

pub hold629 : RunHolds run629
unfolding open-runs run629
hold629 = refl

pub hold630 : RunHolds run630
unfolding open-runs run630
hold630 = refl

pub hold631 : RunHolds run631
unfolding open-runs run631
hold631 = refl

pub hold632 : RunHolds run632
unfolding open-runs run632
hold632 = refl

pub hold633 : RunHolds run633
unfolding open-runs run633
hold633 = refl

pub hold634 : RunHolds run634
unfolding open-runs run634
hold634 = refl

pub hold635 : RunHolds run635
unfolding open-runs run635
hold635 = refl

pub hold636 : RunHolds run636
unfolding open-runs run636
hold636 = refl

pub hold637 : RunHolds run637
unfolding open-runs run637
hold637 = refl

pub hold638 : RunHolds run638
unfolding open-runs run638
hold638 = refl

pub hold639 : RunHolds run639
unfolding open-runs run639
hold639 = refl

pub hold640 : RunHolds run640
unfolding open-runs run640
hold640 = refl

pub hold641 : RunHolds run641
unfolding open-runs run641
hold641 = refl

pub hold642 : RunHolds run642
unfolding open-runs run642
hold642 = refl

pub hold643 : RunHolds run643
unfolding open-runs run643
hold643 = refl

pub hold644 : RunHolds run644
unfolding open-runs run644
hold644 = refl

pub hold645 : RunHolds run645
unfolding open-runs run645
hold645 = refl

pub hold646 : RunHolds run646
unfolding open-runs run646
hold646 = refl

pub hold647 : RunHolds run647
unfolding open-runs run647
hold647 = refl

pub hold648 : RunHolds run648
unfolding open-runs run648
hold648 = refl

pub hold649 : RunHolds run649
unfolding open-runs run649
hold649 = refl

pub hold650 : RunHolds run650
unfolding open-runs run650
hold650 = refl

pub hold651 : RunHolds run651
unfolding open-runs run651
hold651 = refl

pub hold652 : RunHolds run652
unfolding open-runs run652
hold652 = refl

pub hold653 : RunHolds run653
unfolding open-runs run653
hold653 = refl

pub hold654 : RunHolds run654
unfolding open-runs run654
hold654 = refl

pub hold655 : RunHolds run655
unfolding open-runs run655
hold655 = refl

pub hold656 : RunHolds run656
unfolding open-runs run656
hold656 = refl

pub hold657 : RunHolds run657
unfolding open-runs run657
hold657 = refl

pub hold658 : RunHolds run658
unfolding open-runs run658
hold658 = refl

pub hold659 : RunHolds run659
unfolding open-runs run659
hold659 = refl

pub hold660 : RunHolds run660
unfolding open-runs run660
hold660 = refl

pub hold661 : RunHolds run661
unfolding open-runs run661
hold661 = refl

pub hold662 : RunHolds run662
unfolding open-runs run662
hold662 = refl

pub hold663 : RunHolds run663
unfolding open-runs run663
hold663 = refl

pub hold664 : RunHolds run664
unfolding open-runs run664
hold664 = refl

pub hold665 : RunHolds run665
unfolding open-runs run665
hold665 = refl

pub hold666 : RunHolds run666
unfolding open-runs run666
hold666 = refl

pub hold667 : RunHolds run667
unfolding open-runs run667
hold667 = refl

pub hold668 : RunHolds run668
unfolding open-runs run668
hold668 = refl

pub hold669 : RunHolds run669
unfolding open-runs run669
hold669 = refl

pub hold670 : RunHolds run670
unfolding open-runs run670
hold670 = refl

pub hold671 : RunHolds run671
unfolding open-runs run671
hold671 = refl

pub hold672 : RunHolds run672
unfolding open-runs run672
hold672 = refl

pub hold673 : RunHolds run673
unfolding open-runs run673
hold673 = refl

pub hold674 : RunHolds run674
unfolding open-runs run674
hold674 = refl

pub hold675 : RunHolds run675
unfolding open-runs run675
hold675 = refl

pub hold676 : RunHolds run676
unfolding open-runs run676
hold676 = refl

pub hold677 : RunHolds run677
unfolding open-runs run677
hold677 = refl

pub hold678 : RunHolds run678
unfolding open-runs run678
hold678 = refl

pub hold679 : RunHolds run679
unfolding open-runs run679
hold679 = refl

pub hold680 : RunHolds run680
unfolding open-runs run680
hold680 = refl

pub hold681 : RunHolds run681
unfolding open-runs run681
hold681 = refl

pub hold682 : RunHolds run682
unfolding open-runs run682
hold682 = refl

pub hold683 : RunHolds run683
unfolding open-runs run683
hold683 = refl

pub hold684 : RunHolds run684
unfolding open-runs run684
hold684 = refl

pub hold685 : RunHolds run685
unfolding open-runs run685
hold685 = refl

pub hold686 : RunHolds run686
unfolding open-runs run686
hold686 = refl

pub hold687 : RunHolds run687
unfolding open-runs run687
hold687 = refl

pub hold688 : RunHolds run688
unfolding open-runs run688
hold688 = refl

pub hold689 : RunHolds run689
unfolding open-runs run689
hold689 = refl

pub hold690 : RunHolds run690
unfolding open-runs run690
hold690 = refl

pub hold691 : RunHolds run691
unfolding open-runs run691
hold691 = refl

pub hold692 : RunHolds run692
unfolding open-runs run692
hold692 = refl

pub hold693 : RunHolds run693
unfolding open-runs run693
hold693 = refl

pub hold694 : RunHolds run694
unfolding open-runs run694
hold694 = refl

pub hold695 : RunHolds run695
unfolding open-runs run695
hold695 = refl

pub hold696 : RunHolds run696
unfolding open-runs run696
hold696 = refl

pub hold697 : RunHolds run697
unfolding open-runs run697
hold697 = refl

pub hold698 : RunHolds run698
unfolding open-runs run698
hold698 = refl

pub hold699 : RunHolds run699
unfolding open-runs run699
hold699 = refl

pub hold700 : RunHolds run700
unfolding open-runs run700
hold700 = refl

pub hold701 : RunHolds run701
unfolding open-runs run701
hold701 = refl

pub hold702 : RunHolds run702
unfolding open-runs run702
hold702 = refl

pub hold703 : RunHolds run703
unfolding open-runs run703
hold703 = refl

pub hold704 : RunHolds run704
unfolding open-runs run704
hold704 = refl

pub hold705 : RunHolds run705
unfolding open-runs run705
hold705 = refl

pub hold706 : RunHolds run706
unfolding open-runs run706
hold706 = refl

pub hold707 : RunHolds run707
unfolding open-runs run707
hold707 = refl

pub hold708 : RunHolds run708
unfolding open-runs run708
hold708 = refl

pub hold709 : RunHolds run709
unfolding open-runs run709
hold709 = refl

pub hold710 : RunHolds run710
unfolding open-runs run710
hold710 = refl

pub hold711 : RunHolds run711
unfolding open-runs run711
hold711 = refl

pub hold712 : RunHolds run712
unfolding open-runs run712
hold712 = refl

pub hold713 : RunHolds run713
unfolding open-runs run713
hold713 = refl

pub hold714 : RunHolds run714
unfolding open-runs run714
hold714 = refl

pub hold715 : RunHolds run715
unfolding open-runs run715
hold715 = refl

pub hold716 : RunHolds run716
unfolding open-runs run716
hold716 = refl

pub hold717 : RunHolds run717
unfolding open-runs run717
hold717 = refl

pub hold718 : RunHolds run718
unfolding open-runs run718
hold718 = refl

pub hold719 : RunHolds run719
unfolding open-runs run719
hold719 = refl

pub hold720 : RunHolds run720
unfolding open-runs run720
hold720 = refl

pub hold721 : RunHolds run721
unfolding open-runs run721
hold721 = refl

pub hold722 : RunHolds run722
unfolding open-runs run722
hold722 = refl

pub hold723 : RunHolds run723
unfolding open-runs run723
hold723 = refl

pub hold724 : RunHolds run724
unfolding open-runs run724
hold724 = refl

pub hold725 : RunHolds run725
unfolding open-runs run725
hold725 = refl

pub hold726 : RunHolds run726
unfolding open-runs run726
hold726 = refl

pub hold727 : RunHolds run727
unfolding open-runs run727
hold727 = refl

pub hold728 : RunHolds run728
unfolding open-runs run728
hold728 = refl

pub hold729 : RunHolds run729
unfolding open-runs run729
hold729 = refl

pub hold730 : RunHolds run730
unfolding open-runs run730
hold730 = refl

pub hold731 : RunHolds run731
unfolding open-runs run731
hold731 = refl

pub hold732 : RunHolds run732
unfolding open-runs run732
hold732 = refl

pub hold733 : RunHolds run733
unfolding open-runs run733
hold733 = refl

pub hold734 : RunHolds run734
unfolding open-runs run734
hold734 = refl

pub hold735 : RunHolds run735
unfolding open-runs run735
hold735 = refl

pub hold736 : RunHolds run736
unfolding open-runs run736
hold736 = refl

pub hold737 : RunHolds run737
unfolding open-runs run737
hold737 = refl

pub hold738 : RunHolds run738
unfolding open-runs run738
hold738 = refl

pub hold739 : RunHolds run739
unfolding open-runs run739
hold739 = refl

pub hold740 : RunHolds run740
unfolding open-runs run740
hold740 = refl

pub hold741 : RunHolds run741
unfolding open-runs run741
hold741 = refl

pub hold742 : RunHolds run742
unfolding open-runs run742
hold742 = refl

pub hold743 : RunHolds run743
unfolding open-runs run743
hold743 = refl

pub hold744 : RunHolds run744
unfolding open-runs run744
hold744 = refl

pub hold745 : RunHolds run745
unfolding open-runs run745
hold745 = refl

pub hold746 : RunHolds run746
unfolding open-runs run746
hold746 = refl

pub hold747 : RunHolds run747
unfolding open-runs run747
hold747 = refl

pub hold748 : RunHolds run748
unfolding open-runs run748
hold748 = refl

pub hold749 : RunHolds run749
unfolding open-runs run749
hold749 = refl

pub hold750 : RunHolds run750
unfolding open-runs run750
hold750 = refl

pub hold751 : RunHolds run751
unfolding open-runs run751
hold751 = refl

pub hold752 : RunHolds run752
unfolding open-runs run752
hold752 = refl

pub hold753 : RunHolds run753
unfolding open-runs run753
hold753 = refl

pub hold754 : RunHolds run754
unfolding open-runs run754
hold754 = refl

pub hold755 : RunHolds run755
unfolding open-runs run755
hold755 = refl

pub hold756 : RunHolds run756
unfolding open-runs run756
hold756 = refl

pub hold757 : RunHolds run757
unfolding open-runs run757
hold757 = refl

pub hold758 : RunHolds run758
unfolding open-runs run758
hold758 = refl

pub hold759 : RunHolds run759
unfolding open-runs run759
hold759 = refl

pub hold760 : RunHolds run760
unfolding open-runs run760
hold760 = refl
